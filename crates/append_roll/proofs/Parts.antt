-- An Append in parts that end at checkpoints: what is done after at bytes of the piece, part by part, and what it comes to at the end.
-- Assumes nothing.
use mathlib.Core.Path.{◌≡◌, refl, sym, ap, ap₂, ◌∙◌, subst}
use mathlib.Core.Bool.{true}
use mathlib.Core.List.{List, [], ◌∷◌, ◌++◌}
use Prim.Native.Nat.{ℕ, ◌+◌, ◌-◌, ◌*◌, ◌/◌, ◌%◌, ◌≤◌, ◌<◌, zero-le}
use native.Mathlib.Nat.{add-zero, add_assoc, mul_assoc, mul-mod_left, mul-div_cancel, add-mul-div_right, div-le_self}
use native.Mathlib.Omega.{arith}
use lib.ListN.{length, take, drop, length-append, length-drop, take-append-drop}
use lib.Seq.{length-take-le, take-add, take_all, take-length}
use Rattle.std.specs.Prelude.{Some}
use Rattle.lsh.specs.WordSize.{WordSize, size_of, block_bytes}
use Rattle.lsh.specs.Block.{Chain, forwards}
use Rattle.lsh.specs.Padding.{blocks_of, rest_of}
use Rattle.lsh.proofs.Figures.{block-some}
use Rattle.lsh.proofs.Bytes.{octets}
use Rattle.lsh.proofs.Padding.{length_rest, rest-none}
use Rattle.limits.specs.Limits.{longest_block}
use Rattle.orders.specs.declared.Record.{Record}
use Rattle.orders.specs.declared.Outcome.{Outcome}
use Rattle.orders.specs.Record.{held_of, held_bytes, sound}
use Rattle.orders.proofs.Sound.{sounds}
use Rattle.orders.specs.Append.{appended, append_accepted}
use Rattle.orders.proofs.AfterPiece.{rest-length, held_after}
use Rattle.orders.proofs.Joins.{append-joins}
use Rattle.orders.proofs.AppendedSound.{appended-chain, appended-sound}
use Rattle.roll.specs.declared.Traversal.{Traversal}
use Rattle.checkpoints.specs.Slots.{slot_count}
use Rattle.checkpoints.specs.Due.{checkpoints_at, spacing, due_numbers}
use Rattle.checkpoints.specs.Roll.{links, is_roll, checkpoints}
use Rattle.checkpoints.specs.Checkpoints.{inserted, inserted_all}
use Rattle.roll.specs.Traversal.{traversal_of}
use Rattle.checkpoints.proofs.Due.{due-next, due-none}
use Rattle.checkpoints.proofs.Spacing.{step, at-checkpoint, blocks_at, unreached, no-fewer-blocks, no-fewer}
use Rattle.checkpoints.proofs.Form.{roll-of}
use Rattle.checkpoints.proofs.Shown.{inserted-size, inserted-links, inserted-roll}
use Rattle.checkpoints.specs.AppendRoll.{due, chain_at}
use Rattle.checkpoints.proofs.ChainAt.{chain-front}
use Rattle.checkpoints.proofs.AppendAnswers.{Accepted, goal-of}

module _ (r : Record) (piece : List ℕ) where
  abbrev Z : WordSize
  Z = size_of r.w

  abbrev B : ℕ
  B = block_bytes Z

  abbrev Q : ℕ
  Q = step r.w

  -- an accepted call, and the lengths of the record's arrays
  pub record Entry (roll : List ℕ) : Type 0 where
    pub pass : Accepted r (length piece) roll
    pub words : length r.chain ≡ 16
    pub long : length r.held ≡ longest_block

  -- the record after at bytes of the piece, and how many whole blocks and checkpoints there are then
  abbrev so_far : ℕ → Record
  so_far at = appended r (take at piece)

  abbrev blocks-after : ℕ → ℕ
  blocks-after at = (r.total + at) / B

  abbrev have : ℕ → ℕ
  have at = checkpoints r.w (r.total + at)

  -- the roll s with the checkpoint after at bytes inserted, and with those that are still due then
  abbrev pub inserted-at : ℕ → List ℕ → List ℕ
  inserted-at at s = inserted Z (record { number = blocks-after at; chain = (so_far at).chain }) s

  abbrev left : ℕ → List ℕ
  left at = due_numbers (blocks-after at) (blocks-after (length piece))

  abbrev pub due-after : ℕ → List ℕ → List ℕ
  due-after at s = inserted_all Z (checkpoints_at (chain_at r piece) (left at)) s

  -- the roll after at bytes, where it was start after some
  pub record Stage (start : ℕ) (from : List ℕ) (at : ℕ) (now : List ℕ) : Type 0 where
    pub up_to : at ≤ length piece
    pub form : is_roll Z now ≡ true
    pub room : length (links Z now) + length (left at) ≤ slot_count Z (length now)
    pub same : length now ≡ length from
    pub rest : due-after at now ≡ due-after start from

  -- and what goes with it at a checkpoint: the chain, the blocks run, and what is known of the roll
  pub record Parted (start : ℕ) (from : List ℕ) (chain : List ℕ) (count : ℕ) (known : Traversal) (at : ℕ) (now : List ℕ) : Type 0 where
    pub stage : Stage start from at now
    pub reached : chain ≡ (so_far at).chain
    pub blocks : count ≡ (r.total + at) / B - r.total / B
    pub traversal : Some known ≡ traversal_of Z now
    pub place : r.total + at ≡ have at * Q

  module _ {roll : List ℕ} (e : Entry roll) where
    chain-there : (at : ℕ) → at ≤ length piece → (so_far at).chain ≡ chain_at r piece (blocks-after at)
    chain-there at le =
        chain-front r e.long (take at piece) (drop at piece)
        ∙ ap₂ (chain_at r) (take-append-drop at piece) (ap (λ (n : ℕ). (r.total + n) / B) (length-take-le at piece le))

    -- at a checkpoint no byte is held
    module _ (at : ℕ) (le : at ≤ length piece) (k : ℕ) (place : r.total + at ≡ k * Q) where
      none-held : rest_of Z (held_bytes r ++ take at piece) ≡ []
      none-held =
          rest-none Z (block-some r.w) (held_bytes r ++ take at piece)
          (sym (length_rest Z (block-some r.w) (held_bytes r ++ take at piece))
          ∙ sym (rest-length r e.long (take at piece))
          ∙ ap (λ (n : ℕ). (r.total + n) % B) (length-take-le at piece le)
          ∙ ap (λ (n : ℕ). n % B) (place ∙ sym (mul_assoc k spacing B))
          ∙ mul-mod_left (k * spacing) B)

      pub order-there : (chain : List ℕ) → chain ≡ (so_far at).chain
          → ◌≡◌ {A = Record} (record { w = r.w; n = r.n; total = r.total + at; chain = chain; held = held_of []; split = r.split }) (so_far at)
      unfolding appended
      order-there chain is =
          λ i. record {
            w = r.w;
            n = r.n;
            total = r.total + sym (length-take-le at piece le) i;
            chain = is i;
            held = held_of (sym none-held i);
            split = r.split;
          }

      -- and further whole blocks go on from the chain there
      goes_on : (p : List ℕ) → (appended (so_far at) p).chain ≡ forwards Z (blocks_of Z p) (so_far at).chain
      unfolding appended
      goes_on p =
          ap (λ (s : List ℕ). forwards Z (blocks_of Z (s ++ p)) (so_far at).chain) (held_after r e.long (take at piece) ∙ none-held)

    -- the next size bytes
    module _ (at size : ℕ) (le : at + size ≤ length piece) where
      abbrev part : List ℕ
      part = take size (drop at piece)

      part_length : length part ≡ size
      part_length = length-take-le size (drop at piece) (omega (arith, length-drop at piece))

      part-joins : appended (so_far at) part ≡ so_far (at + size)
      part-joins = append-joins r (sounds r e.pass.sound_record).word e.long (take at piece) part ∙ ap (appended r) (sym (take-add at size piece))

      -- the blocks run so far and those of the part
      part_count : ((r.total + at) / B - r.total / B) + (append_accepted (so_far at) part).count ≡ (r.total + (at + size)) / B - r.total / B
      unfolding append_accepted appended
      part_count =
          rw (length-take-le at piece (omega arith), part_length)
          (omega (arith, no-fewer-blocks r.w r.total (r.total + at) (omega arith), no-fewer-blocks r.w (r.total + at) (r.total + at + size) (omega arith), ap (λ (n : ℕ). n / B) (add_assoc r.total at size)))

    start_left : left 0 ≡ due r (length piece)
    unfolding due
    start_left = ap (λ (n : ℕ). due_numbers (n / B) (blocks-after (length piece))) (add-zero r.total)

    -- before the piece, and where the first checkpoint is not reached
    stage-none : Stage 0 roll 0 roll
    stage-none =
        record { up_to = zero-le; form = (roll-of r roll e.pass.roll_of).0; room = omega (arith, e.pass.room, ap length start_left); same = refl; rest = refl }

    goal-is : due-after 0 roll ≡ goal-of r piece roll
    goal-is = ap (λ (l : List ℕ). inserted_all Z (checkpoints_at (chain_at r piece) l) roll) start_left

    -- the record so far is taken by Append, with what is left of the piece
    pub so-far-sound : (at : ℕ) → at ≤ length piece → sound (so_far at) ≡ true
    so-far-sound at le =
        appended-sound r e.pass.sound_record e.words e.long (take at piece) e.pass.idle (omega (arith, length-take-le at piece le, e.pass.within))

    -- the next checkpoint is after end bytes
    module _ {start : ℕ} {from : List ℕ} {at : ℕ} {now : List ℕ} (p : Stage start from at now) (end : ℕ) (next : r.total + end ≡ (have at + 1) * Q) where
      have-next : have end ≡ have at + 1
      have-next = ap (checkpoints r.w) next ∙ at-checkpoint r.w (have at + 1)

      place-next : r.total + end ≡ have end * Q
      place-next = next ∙ ap (λ (n : ℕ). n * Q) (sym have-next)

      -- and is reached
      module _ (le : end ≤ length piece) where
        left-next : left at ≡ blocks-after end ∷ left end
        unfolding checkpoints
        left-next =
            due-next (blocks-after at) (blocks-after (length piece)) (ap (λ (n : ℕ). n / B) next ∙ blocks_at r.w (have at + 1) ∙ omega arith)
            (omega (arith, have-next, no-fewer r.w (r.total + end) (r.total + length piece) (omega arith)))

        part_room : length (links Z now) < slot_count Z (length now)
        part_room = omega (arith, p.room, ap length left-next)

        stage-more : {now' : List ℕ} → now' ≡ inserted-at end now → Stage start from end now'
        stage-more {now'} is =
            let ok8 = octets r.w in
            let there = chain-there end le in
            let t-chain = appended-chain r e.pass.sound_record e.words e.long (take end piece) in
            let size_is : length now' ≡ length now = ap length is ∙ inserted-size Z ok8 now p.form part_room _ t-chain in
            let many : length (links Z now') ≡ length (links Z now) + 1 =
            ap (λ (s : List ℕ). length (links Z s)) is ∙ ap length (inserted-links Z ok8 now p.form part_room _ t-chain) ∙ length-append (links Z now) _ in
            record {
              up_to = le;
              form = ap (is_roll Z) is ∙ inserted-roll Z ok8 now p.form part_room _ t-chain;
              room = omega (arith, p.room, many, ap length left-next, ap (slot_count Z) size_is);
              same = size_is ∙ p.same;
              rest =
                  ap (due-after end) (is ∙ ap (λ (c : List ℕ). inserted Z (record { number = blocks-after end; chain = c }) now) there)
                  ∙ ap (λ (l : List ℕ). inserted_all Z (checkpoints_at (chain_at r piece) l) now) (sym left-next)
                  ∙ p.rest;
            }

      -- or is not
      stage-end : length piece < end → now ≡ due-after start from
      unfolding checkpoints
      stage-end less =
          let none_left : left at ≡ [] =
          due-none (blocks-after at) (blocks-after (length piece)) (omega (arith, unreached r.w (have at + 1) (r.total + length piece) (omega arith))) in
          ap (λ (l : List ℕ). inserted_all Z (checkpoints_at (chain_at r piece) l) now) (sym none_left) ∙ p.rest

    -- the first part
    module _ (first : ℕ) (next : r.total + first ≡ (checkpoints r.w r.total + 1) * Q) where
      next-first : r.total + first ≡ (have 0 + 1) * Q
      next-first = next ∙ ap (λ (n : ℕ). (checkpoints r.w n + 1) * Q) (sym (add-zero r.total))

      -- it is longer than the piece
      pub none-reached : length piece < first → roll ≡ goal-of r piece roll
      none-reached less = stage-end stage-none first next-first less ∙ goal-is

      module _ (le : first ≤ length piece) where
        pub first-room : length (links Z roll) < slot_count Z (length roll)
        first-room = part_room stage-none first next-first le

        first-stage : {now : List ℕ} → now ≡ inserted-at first roll → Stage 0 roll first now
        first-stage = stage-more stage-none first next-first le

        pub first-parted : {chain : List ℕ} {count : ℕ} {known : Traversal} {now : List ℕ}
            → chain ≡ (so_far first).chain → count ≡ (append_accepted r (take first piece)).count
            → now ≡ inserted-at first roll → Some known ≡ traversal_of Z now
            → Parted first now chain count known first now
        unfolding append_accepted
        first-parted {chain} {count} {known} {now} ec en el ek =
            let s : Stage 0 roll first now = first-stage el in
            record {
              stage = record { up_to = le; form = s.form; room = s.room; same = refl; rest = refl };
              reached = ec;
              blocks = en ∙ ap (λ (n : ℕ). (r.total + n) / B - r.total / B) (length-take-le first piece le);
              traversal = ek;
              place = place-next stage-none first next-first;
            }

        -- what is due then gives the roll that is wanted
        pub first_rest : {now : List ℕ} → now ≡ inserted-at first roll → (length now ≡ length roll) × (due-after first now ≡ goal-of r piece roll)
        first_rest el = ((first-stage el).same, (first-stage el).rest ∙ goal-is)

    -- the further parts
    module _ {start : ℕ} {from : List ℕ} {chain : List ℕ} {count : ℕ} {known : Traversal} {at : ℕ} {now : List ℕ} (p : Parted start from chain count known at now) where
      next_place : r.total + (at + Q) ≡ (have at + 1) * Q
      next_place = omega (arith, p.place)

      pub chain-ok : Chain Z chain
      chain-ok = subst (Chain Z) (sym p.reached) (appended-chain r e.pass.sound_record e.words e.long (take at piece))

      pub count-few : count ≤ r.total + at
      count-few = omega (arith, p.blocks, div-le_self (r.total + at) B)

      module _ (le : at + Q ≤ length piece) where
        pub next-room : length (links Z now) < slot_count Z (length now)
        next-room = part_room p.stage (at + Q) next_place le

        -- a part is given, and its blocks run on the chain
        module _ (given : List ℕ) (is-part : given ≡ part at Q le) where
          chain-is-next : forwards Z (blocks_of Z given) chain ≡ (so_far (at + Q)).chain
          chain-is-next =
              ap₂ (λ (g c : List ℕ). forwards Z (blocks_of Z g) c) is-part p.reached
              ∙ sym (goes_on at p.stage.up_to (have at) p.place (part at Q le))
              ∙ ap (λ (o : Record). o.chain) (part-joins at Q le)

          pub parted-more : {end : ℕ} {chain' : List ℕ} {count' : ℕ} {known' : Traversal} {now' : List ℕ}
              → end ≡ at + Q
              → chain' ≡ forwards Z (blocks_of Z given) chain
              → count' ≡ count + length given / B
              → ((k : ℕ) → now' ≡ inserted Z (record { number = k; chain = chain' }) now)
              → Some known' ≡ traversal_of Z now'
              → Parted start from chain' count' known' end now'
          parted-more {end} {chain'} {count'} {known'} {now'} ee ec en el ek =
              let there = ec ∙ chain-is-next in
              subst (λ (n : ℕ). Parted start from chain' count' known' n now') (sym ee)
              (record {
                stage = stage-more p.stage (at + Q) next_place le
                    (el (blocks-after (at + Q)) ∙ ap (λ (c : List ℕ). inserted Z (record { number = blocks-after (at + Q); chain = c }) now) there);
                reached = there;
                blocks =
                    en
                    ∙ omega (
                      arith,
                      p.blocks,
                      ap (λ (g : List ℕ). length g / B) is-part,
                      ap (λ (n : ℕ). n / B) (part_length at Q le),
                      mul-div_cancel spacing (block-some r.w),
                      no-fewer-blocks r.w r.total (r.total + at) (omega arith),
                      ap (λ (n : ℕ). n / B) (sym (add_assoc r.total at Q)),
                      add-mul-div_right (r.total + at) spacing (block-some r.w),
                    );
                traversal = ek;
                place = place-next p.stage (at + Q) next_place;
              })

      -- the end
      pub parted-roll : length piece < at + Q → now ≡ due-after start from
      parted-roll less = stage-end p.stage (at + Q) next_place less

      pub parted-end : (rest : List ℕ) → rest ≡ drop at piece → {order : Record} → order ≡ so_far at
          → ◌≡◌ {A = Outcome}
          (record { number = 0; count = count + (append_accepted order rest).count; next = appended order rest })
          (append_accepted r piece)
      unfolding append_accepted
      parted-end rest is-rest {order} is =
          let size : ℕ = length piece - at in
          let whole : at + size ≡ length piece = omega (arith, p.stage.up_to) in
          let le : at + size ≤ length piece = omega arith in
          let is-part : rest ≡ part at size le =
          is-rest ∙ sym (take_all size (drop at piece) (omega (arith, length-drop at piece))) in
          let joined : appended order rest ≡ appended r piece =
          ap₂ appended is is-part ∙ part-joins at size le
          ∙ ap (appended r) (ap (λ (n : ℕ). take n piece) whole ∙ take-length piece) in
          let counted : count + (append_accepted order rest).count ≡ (r.total + length piece) / B - r.total / B =
          ap₂ (λ (o : Record) (s : List ℕ). count + (append_accepted o s).count) is is-part
          ∙ ap (λ (c : ℕ). c + (append_accepted (so_far at) (part at size le)).count) p.blocks
          ∙ part_count at size le
          ∙ ap (λ (n : ℕ). (r.total + n) / B - r.total / B) whole in
          λ i. record { number = 0; count = counted i; next = joined i }
