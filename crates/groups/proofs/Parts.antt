-- What is done with 16 words in groups is what the definition of LSH does with the words, for every word size: the two write out the same words.
-- Assumes nothing.
use mathlib.Core.Path.{◌≡◌, refl, ap}
use mathlib.Core.List.{List}
use Prim.Native.Nat.{ℕ}
use Rattle.lsh.specs.Tabulate.{tabulate, tabulate_from}
use Rattle.lsh.specs.WordSize.{WordSize, tau, sigma, place_of}
use Rattle.lsh.specs.Lane.{mix_lane, unmix_lane}
use Rattle.lsh.specs.Step.{add_message, lanes, mixed_lane, unmixed_lane, mix, unmix, permute, unpermute}
use Rattle.lsh.specs.Expansion.{next_sub_message}
use Rattle.groups.specs.Group.{group, each_word, wordwise, permute_words, unpermute_words}
use Rattle.groups.specs.GroupStep.{in_groups, in_words, add_groups, mix_pair, unmix_pair, mix_groups, unmix_groups, within_x, within_y, permute_groups, unpermute_groups}
use Rattle.groups.specs.GroupBlock.{within_first, within_second, next_groups}

module _ (z : WordSize) (t m : List ℕ) where
  pub add-groups : add_groups z (in_groups t) (in_groups m) ≡ in_groups (add_message z t m)
  unfolding in_groups group add_groups wordwise add_message tabulate tabulate_from
  add-groups = refl

  pub next-groups : next_groups z (in_groups t) (in_groups m) ≡ in_groups (next_sub_message z t m)
  unfolding in_groups group next_groups wordwise permute_words within_first within_second next_sub_message tau tabulate tabulate_from
  next-groups = refl

module _ (z : WordSize) (j : ℕ) (t : List ℕ) where
  pub mix-groups : mix_groups z j (in_groups t) ≡ in_groups (mix z j t)
  unfolding in_groups group mix_groups mix_pair each_word wordwise mix lanes mixed_lane mix_lane tabulate tabulate_from
  mix-groups = refl

  pub unmix-groups : unmix_groups z j (in_groups t) ≡ in_groups (unmix z j t)
  unfolding in_groups group unmix_groups unmix_pair each_word wordwise unmix lanes unmixed_lane unmix_lane tabulate tabulate_from
  unmix-groups = refl

  -- the words of the mix
  pub mixed-words : in_words (mix_groups z j (in_groups t)) ≡ mix z j t
  unfolding in_words in_groups group mix lanes tabulate tabulate_from
  mixed-words = ap in_words mix-groups

  pub unmixed-words : in_words (unmix_groups z j (in_groups t)) ≡ unmix z j t
  unfolding in_words in_groups group unmix lanes tabulate tabulate_from
  unmixed-words = ap in_words unmix-groups

module _ (t : List ℕ) where
  pub permute-groups : permute_groups (in_groups t) ≡ in_groups (permute t)
  unfolding in_groups group permute_groups permute_words within_x within_y permute sigma tabulate tabulate_from
  permute-groups = refl

  pub unpermute-groups : unpermute_groups (in_groups t) ≡ in_groups (unpermute t)
  unfolding in_groups group unpermute_groups unpermute_words within_x within_y unpermute sigma place_of tabulate tabulate_from
  unpermute-groups = refl

-- 16 words are the words of their groups
pub in-words : (f : ℕ → ℕ) → in_words (in_groups (tabulate 16 f)) ≡ tabulate 16 f
unfolding in_words in_groups group tabulate tabulate_from
in-words f = refl
