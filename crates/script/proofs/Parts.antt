-- The words of a line, as a split at its spaces gives them.
-- Assumes nothing.
use mathlib.Core.Path.{◌≡◌, refl, sym, ap, ◌∙◌, subst}
use mathlib.Core.Bool.{Bool, true, false, cond, false≢true}
use mathlib.Core.List.{List, [], ◌∷◌, ◌++◌}
use Prim.Native.Nat.{ℕ, zero, suc, ◌+◌, ◌≤◌, ◌<◌, zero-le}
use native.Mathlib.Nat.{le_of_eq, le_of_suc-le-suc, add-zero, zero-add}
use native.Mathlib.Numerals.{add-one}
use native.Mathlib.Omega.{arith}
use denote.Param.Members.{Mut}
use denote.Ref.{Bor}
use lib.Dec.{eqb}
use lib.ListN.{length, take, drop, length-append}
use lib.Seq.{take_all, drop-append-add}
use Rattle.std.proofs.lemmas.List.{take_at}
use Rattle.std.specs.Bool.{MatchBool}
use Rattle.std.specs.Fn.{Called, ComputesKey}
use Rattle.std.specs.Iterator.{Yields, SkipsThenYields, FindsPosition}
use Rattle.std.specs.List.{IsFirstMatchOrLen, FoldsTo}
use Rattle.std.specs.Option.{MatchOption, IfSome}
use Rattle.std.specs.Prelude.{Option, Some, None}
use Rattle.std.specs.declared.slice.Split.{Split}
use Rattle.std.specs.Slice.Iter.{split_rest, split_done, split_callee, split_steps}
use Rattle.lists.specs.Equal.{equal}
use Rattle.script.specs.Words.{before, spaces, after_spaces, word_at, place_from, place_of}
use Rattle.script.proofs.Lines.{take-before}

-- the first match is where the first word ends
first-match : (l : List ℕ) (n : ℕ) → n ≤ length l → IsFirstMatchOrLen (λ y. eqb y 32) l n → n ≡ length (before 32 l)
first-match [] n le is = omega arith
first-match (x ∷ l) zero le is = rw (is.1 (omega arith) 0)
first-match (x ∷ l) (suc n) le is =
    let ne : eqb x 32 ≡ false = is.0 0 0 zero-le (omega arith) in
    rw ne (ap suc (first-match l n (le_of_suc-le-suc le) (λ k d low high. is.0 (suc k) d zero-le (omega arith), λ lt. is.1 (omega arith))))

-- one space more
after_more : (i : ℕ) (s : List ℕ) → after_spaces (suc i) s ≡ after_spaces 1 (after_spaces i s)
after_more zero s = refl
after_more (suc i) [] = refl
after_more (suc i) (x ∷ s) = go (after_more i s) (after_more (suc i) s) (eqb x 32)
  where
    go : after_spaces (suc i) s ≡ after_spaces 1 (after_spaces i s) → after_spaces (suc (suc i)) s ≡ after_spaces 1 (after_spaces (suc i) s)
        → (b : Bool) → cond b (after_spaces (suc i) s) (after_spaces (suc (suc i)) s) ≡ after_spaces 1 (cond b (after_spaces i s) (after_spaces (suc i) s))
    go one more true = one
    go one more false = more

-- what follows the first word and its space
abbrev Next : List ℕ → ℕ → Type 0
Next t n = (after_spaces 1 t ≡ drop (suc n) t) × (spaces t ≡ suc (spaces (drop (suc n) t)))

next_word : (t : List ℕ) → length (before 32 t) < length t → Next t (length (before 32 t))
next_word [] h = absurd (omega arith)
next_word (x ∷ t) h = go (next_word t) (eqb x 32) h
  where
    go : (length (before 32 t) < length t → Next t (length (before 32 t)))
        → (b : Bool) → length (cond b [] (x ∷ before 32 t)) < suc (length t)
        → (cond b t (after_spaces 1 t) ≡ drop (length (cond b [] (x ∷ before 32 t))) t)
        × (cond b (suc (spaces t)) (spaces t) ≡ suc (spaces (drop (length (cond b [] (x ∷ before 32 t))) t)))
    go rest true h = (refl, refl)
    go rest false h = rest (omega arith)

last_word : (t : List ℕ) → length t ≤ length (before 32 t) → spaces t ≡ 0
last_word [] h = refl
last_word (x ∷ t) h = go (last_word t) (eqb x 32) h
  where
    go : (length t ≤ length (before 32 t) → spaces t ≡ 0)
        → (b : Bool) → suc (length t) ≤ length (cond b [] (x ∷ before 32 t)) → cond b (suc (spaces t)) (spaces t) ≡ 0
    go rest true h = absurd (omega arith)
    go rest false h = rest (omega arith)

next_words : (i : ℕ) (t : List ℕ) → length (before 32 t) < length t → after_spaces (suc i) t ≡ after_spaces i (drop (suc (length (before 32 t))) t)
next_words i [] h = absurd (omega arith)
next_words i (x ∷ t) h = go (next_words i t) (eqb x 32) h
  where
    go : (length (before 32 t) < length t → after_spaces (suc i) t ≡ after_spaces i (drop (suc (length (before 32 t))) t))
        → (b : Bool) → length (cond b [] (x ∷ before 32 t)) < suc (length t)
        → cond b (after_spaces i t) (after_spaces (suc i) t) ≡ after_spaces i (drop (length (cond b [] (x ∷ before 32 t))) t)
    go rest true h = refl
    go rest false h = rest (omega arith)

no-words : (i : ℕ) (t : List ℕ) → length t ≤ length (before 32 t) → after_spaces (suc i) t ≡ []
no-words i [] h = refl
no-words i (x ∷ t) h = go (no-words i t) (eqb x 32) h
  where
    go : (length t ≤ length (before 32 t) → after_spaces (suc i) t ≡ [])
        → (b : Bool) → suc (length t) ≤ length (cond b [] (x ∷ before 32 t)) → cond b (after_spaces i t) (after_spaces (suc i) t) ≡ []
    go rest true h = absurd (omega arith)
    go rest false h = rest (omega arith)

module _ {F : Type 0} (g : Mut F (Bor ℕ × Unit {0}) Bool) where
  -- a split at spaces that has l left to take apart
  pub record Left (s : Split ℕ F) (l : List ℕ) : Type 0 where
    pub rest : split_rest s ≡ l
    pub more : split_done s ≡ false
    pub tests : ComputesKey g (λ (y : ℕ). eqb y 32) (split_callee s)

  -- after the first word of l: nothing, or what stands behind its space
  data After (l : List ℕ) (t : Split ℕ F) : Type 0 where
    last : split_done t ≡ true → length l ≤ length (before 32 l) → After l t
    next : length (before 32 l) < length l → Left t (drop (suc (length (before 32 l))) l) → After l t

  part : (s t : Split ℕ F) (l : List ℕ) (x : Bor (List ℕ)) → Left s l → split_steps g s (Some x) t → (x.now ≡ before 32 l) × After l t
  part s t l x h step = go (split_done t) refl step.1
    where
      found : ComputesKey g (λ (y : ℕ). eqb y 32) (split_callee t) × IsFirstMatchOrLen (λ (y : ℕ). eqb y 32) l (length x.now)
      found = rw h.rest at (step.2 (λ (y : ℕ). eqb y 32) h.tests)

      go : (b : Bool) → split_done t ≡ b → MatchBool b (split_rest s ≡ x.now) ((y : ℕ) × (split_rest s ≡ x.now ++ (y ∷ split_rest t)))
          → (x.now ≡ before 32 l) × After l t
      go true e c =
          let same : l ≡ x.now = sym h.rest ∙ c in
          let n : length x.now ≡ length (before 32 l) = first-match l (length x.now) (le_of_eq (sym (ap length same))) found.1 in (
            sym same ∙ sym (take_all (length (before 32 l)) l (omega (arith, ap length same))) ∙ take-before 32 l,
            last e (omega (arith, ap length same)),
          )
      go false e (y, c) =
          let joined : l ≡ x.now ++ (y ∷ split_rest t) = sym h.rest ∙ c in
          let size : length l ≡ length x.now + suc (length (split_rest t)) = ap length joined ∙ length-append x.now (y ∷ split_rest t) in
          let n : length x.now ≡ length (before 32 l) = first-match l (length x.now) (omega arith) found.1 in
          let front : take (length x.now) l ≡ x.now = ap (take (length x.now)) joined ∙ take_at x.now (y ∷ split_rest t) (length x.now) refl in
          let behind : drop (length x.now + 1) l ≡ split_rest t = ap (drop (length x.now + 1)) joined ∙ drop-append-add x.now (y ∷ split_rest t) 1 in
          let from : length x.now + 1 ≡ suc (length (before 32 l)) = omega arith in (
            sym front ∙ ap (λ (k : ℕ). take k l) n ∙ take-before 32 l,
            next (omega arith) (record { rest = sym behind ∙ ap (λ (k : ℕ). drop k l) from; more = e; tests = found.0 }),
          )

  -- a split that is done gives nothing
  ended : (xs : List (Bor (List ℕ))) (j t u : Split ℕ F) (r : Option (Bor (List ℕ))) → split_done j ≡ true → Yields (split_steps g) j xs t → split_steps g t r u → r ≡ None
  ended [] j t u None e rest step = refl
  ended [] j t u (Some x) e rest step = absurd (false≢true (sym step.0 ∙ ap split_done (sym rest) ∙ e))
  ended (z ∷ xs) j t u r e (k, one, rest) step = absurd (false≢true (sym one.0 ∙ e))

  -- what nth(i) gives

  abbrev Nth : ℕ → List ℕ → Option (Bor (List ℕ)) → Type 0
  Nth i l r = MatchOption r ([] ≡ before 32 (after_spaces i l)) (λ x. x.now ≡ before 32 (after_spaces i l))

  nth-behind : (i : ℕ) (l m : List ℕ) (r : Option (Bor (List ℕ))) → after_spaces (suc i) l ≡ after_spaces i m → Nth i m r → Nth (suc i) l r
  nth-behind i l m None e h = h ∙ ap (before 32) (sym e)
  nth-behind i l m (Some x) e h = h ∙ ap (before 32) (sym e)

  fewer : (i n : ℕ) (r : Option (Bor (List ℕ))) → MatchOption r (suc n ≤ suc i) (λ _. suc n ≡ suc i) → MatchOption r (n ≤ i) (λ _. n ≡ i)
  fewer i n None h = le_of_suc-le-suc h
  fewer i n (Some x) h = omega arith

  nth-word : (i : ℕ) (xs : List (Bor (List ℕ))) (s t u : Split ℕ F) (l : List ℕ) (r : Option (Bor (List ℕ)))
      → Left s l → Yields (split_steps g) s xs t → split_steps g t r u → MatchOption r (length xs ≤ i) (λ _. length xs ≡ i) → Nth i l r
  nth-word i [] s t u l None h e step is = absurd (false≢true (sym h.more ∙ ap split_done e ∙ step.0))
  nth-word zero [] s t u l (Some x) h e step is = (part s u l x h (subst (λ (k : Split ℕ F). split_steps g k (Some x) u) (sym e) step)).0
  nth-word (suc i) [] s t u l (Some x) h e step is = absurd (omega arith)
  nth-word zero (y ∷ xs) s t u l None h e step is = absurd (omega arith)
  nth-word zero (y ∷ xs) s t u l (Some x) h e step is = absurd (omega arith)
  nth-word (suc i) (y ∷ xs) s t u l r h (j, one, rest) step is =
      go (part s j l y h one).1 (λ m left. nth-word i xs j t u m r left rest step (fewer i (length xs) r is))
    where
      go : After l j → ((m : List ℕ) → Left j m → Nth i m r) → Nth (suc i) l r
      go (last done full) more = subst (Nth (suc i) l) (sym (ended xs j t u r done rest step)) (ap (before 32) (sym (no-words i l full)))
      go (next lt left) more = nth-behind i l (drop (suc (length (before 32 l))) l) r (next_words i l lt) (more (drop (suc (length (before 32 l))) l) left)

  pub nth-some : (i : ℕ) (s u : Split ℕ F) (l : List ℕ) (x : Bor (List ℕ)) → Left s l → SkipsThenYields (split_steps g) s i (Some x) u → x.now ≡ word_at i l
  unfolding word_at
  nth-some i s u l x h (xs, (t, passed, step), is) = nth-word i xs s t u l (Some x) h passed step is

  pub nth-none : (i : ℕ) (s u : Split ℕ F) (l : List ℕ) → Left s l → SkipsThenYields (split_steps g) s i None u → [] ≡ word_at i l
  unfolding word_at
  nth-none i s u l h (xs, (t, passed, step), is) = nth-word i xs s t u l None h passed step is

  -- what a search among the words gives, by a test that says which word is the name
  module _ {G : Type 0} (k : Mut G (Bor (List ℕ) × Unit {0}) Bool) (f : G) (s name : List ℕ)
      (other : (x : Bor (List ℕ)) (q : G) → Called k f (x, tt) false q → (q ≡ f) × (equal x.now name ≡ false))
      (same : (x : Bor (List ℕ)) (q : G) → Called k f (x, tt) true q → equal x.now name ≡ true) where
    -- the search stops at an item, or at the end, n words behind word i
    abbrev Stops : ℕ → ℕ → List ℕ → Option (Bor (List ℕ)) → Type 0
    Stops i n l o = MatchOption o (place_from s name i (suc (spaces l)) ≡ None) (λ _. place_from s name i (suc (spaces l)) ≡ Some (i + n))

    stops-behind : (i n : ℕ) (l m : List ℕ) (o : Option (Bor (List ℕ))) → place_from s name i (suc (spaces l)) ≡ place_from s name (suc i) (suc (spaces m))
        → Stops (suc i) n m o → Stops i (suc n) l o
    stops-behind i n l m None e h = e ∙ h
    stops-behind i n l m (Some x) e h = let k : suc i + n ≡ i + suc n = omega arith in e ∙ h ∙ ap (λ (j : ℕ). Some j) k

    here : (i n : ℕ) (x : List ℕ) → x ≡ before 32 (after_spaces i s) → equal x name ≡ true → place_from s name i (suc n) ≡ Some i
    unfolding place_from word_at
    here i n x e is = rw (sym e, is)

    not-here : (i n : ℕ) (x : List ℕ) → x ≡ before 32 (after_spaces i s) → equal x name ≡ false → place_from s name i (suc n) ≡ place_from s name (suc i) n
    unfolding place_from word_at
    not-here i n x e is = rw (sym e, is)

    none-left : (i : ℕ) → place_from s name i 0 ≡ None
    unfolding place_from
    none-left i = refl

    seek : (i : ℕ) (xs : List (Bor (List ℕ))) (o : Option (Bor (List ℕ))) (p t u : Split ℕ F) (l : List ℕ) (f' : G)
        → Left p l → l ≡ after_spaces i s → Yields (split_steps g) p xs t → split_steps g t o u
        → FoldsTo (λ a x q. Called k a (x, tt) false q) f xs f' → IfSome o (λ x. (h : G) × Called k f' (x, tt) true h)
        → Stops i (length xs) l o
    seek i [] None p t u l f' h at e step calls hit = absurd (false≢true (sym h.more ∙ ap split_done e ∙ step.0))
    seek i [] (Some x) p t u l f' h at e step calls (q, hit) =
        let first = (part p u l x h (subst (λ (j : Split ℕ F). split_steps g j (Some x) u) (sym e) step)).0 in
        let is : equal x.now name ≡ true = same x q (subst (λ (a : G). Called k a (x, tt) true q) (sym calls) hit) in
        here i (spaces l) x.now (first ∙ ap (before 32) at) is ∙ ap (λ (n : ℕ). Some n) (sym (add-zero i))
    seek i (y ∷ xs) o p t u l f' h at (j, one, rest) step (q, call, calls) hit =
        let miss = other y q call in
        go (part p j l y h one).1
        (not-here i (spaces l) y.now ((part p j l y h one).0 ∙ ap (before 32) at) miss.1)
        (λ m left at. seek (suc i) xs o j t u m f' left at rest step (subst (λ (a : G). FoldsTo (λ b x q. Called k b (x, tt) false q) a xs f') miss.0 calls) hit)
      where
        go : After l j → place_from s name i (suc (spaces l)) ≡ place_from s name (suc i) (spaces l)
            → ((m : List ℕ) → Left j m → m ≡ after_spaces (suc i) s → Stops (suc i) (length xs) m o) → Stops i (suc (length xs)) l o
        go (last done full) passed more =
            subst (Stops i (suc (length xs)) l) (sym (ended xs j t u o done rest step))
            (passed ∙ ap (place_from s name (suc i)) (last_word l full) ∙ none-left (suc i))
        go (next lt left) passed more =
            let n : Next l (length (before 32 l)) = next_word l lt in
            stops-behind i (length xs) l (drop (suc (length (before 32 l))) l) o (passed ∙ ap (place_from s name (suc i)) n.1)
            (more (drop (suc (length (before 32 l))) l) left (sym n.0 ∙ ap (after_spaces 1) at ∙ sym (after_more i s)))

    hits : (f' : G) (r : Option ℕ) (n : ℕ) (o : Option (Bor (List ℕ))) → MatchOption o (r ≡ None) (λ x. (r ≡ Some n) × ((h : G) × Called k f' (x, tt) true h))
        → IfSome o (λ x. (h : G) × Called k f' (x, tt) true h)
    hits f' r n None e = tt
    hits f' r n (Some x) e = e.1

    stopped : (f' : G) (r : Option ℕ) (n : ℕ) (o : Option (Bor (List ℕ))) → MatchOption o (r ≡ None) (λ x. (r ≡ Some n) × ((h : G) × Called k f' (x, tt) true h))
        → Stops 0 n s o → r ≡ place_of s name
    unfolding place_of
    stopped f' r n None e at = e ∙ sym at ∙ ap (place_from s name 0) (sym (add-one (spaces s)))
    stopped f' r n (Some x) e at = e.0 ∙ ap (λ (j : ℕ). Some j) (sym (zero-add n)) ∙ sym at ∙ ap (place_from s name 0) (sym (add-one (spaces s)))

    pub position-is : (p u : Split ℕ F) (r : Option ℕ) → Left p s → FindsPosition (split_steps g) k p f r u → r ≡ place_of s name
    position-is p u r h (xs, o, f', (t, passed, step), calls, out) =
        stopped f' r (length xs) o out (seek 0 xs o p t u s f' h refl passed step calls (hits f' r (length xs) o out))
