-- The opening chains that the paper prints: (16) of LSH-256-256 and (17) of LSH-512-512, by computation.
-- Assumes nothing.
use mathlib.Core.Path.{◌≡◌, refl}
use mathlib.Core.List.{[], ◌∷◌}
use Rattle.lsh.specs.Tabulate.{tabulate, tabulate_from}
use Rattle.lsh.specs.Word.{add, turn, rotate_left, xor}
use Rattle.lsh.specs.WordSize.{lsh256, lsh512, alpha, beta, gamma, tau, sigma}
use Rattle.lsh.specs.StepConstants.{constant}
use Rattle.lsh.specs.Lane.{mix_lane}
use Rattle.lsh.specs.Step.{add_message, lanes, mixed_lane, mix, permute, step}
use Rattle.lsh.specs.Expansion.{next_sub_message, sub_messages, sub_message}
use Rattle.lsh.specs.Block.{steps, forward_steps, forward}
use Rattle.lsh.specs.Opening.{opening}

pub opening256 :
    opening lsh256 256
    ≡ 0x46a10f1f ∷ 0xfddce486 ∷ 0xb41443a8 ∷ 0x198e6b9d ∷ 0x3304388d ∷ 0xb0f5a3c7 ∷ 0xb36061c4 ∷ 0x7adbd553
    ∷ 0x105d5378 ∷ 0x2f74de54 ∷ 0x5c2f2d95 ∷ 0xf2553fbe ∷ 0x8051357a ∷ 0x138668c8 ∷ 0x47aa4484 ∷ 0xe01afb41 ∷ []
unfolding tabulate tabulate_from add turn rotate_left xor lsh256 alpha beta gamma tau sigma constant mix_lane add_message lanes mixed_lane mix permute step next_sub_message sub_messages sub_message steps forward_steps forward opening
opening256 = refl

pub opening512 :
    opening lsh512 512
    ≡ 0xadd50f3c7f07094e ∷ 0xe3f3cee8f9418a4f ∷ 0xb527ecde5b3d0ae9 ∷ 0x2ef6dec68076f501
    ∷ 0x8cb994cae5aca216 ∷ 0xfbb9eae4bba48cc7 ∷ 0x650a526174725fea ∷ 0x1f9a61a73f8d8085
    ∷ 0xb6607378173b539b ∷ 0x1bc99853b0c0b9ed ∷ 0xdf727fc19b182d47 ∷ 0xdbef360cf893a457
    ∷ 0x4981f5e570147e80 ∷ 0xd00c4490ca7d3e30 ∷ 0x5d73940c0e4ae1ec ∷ 0x894085e2edb2d819 ∷ []
unfolding tabulate tabulate_from add turn rotate_left xor lsh512 alpha beta gamma tau sigma constant mix_lane add_message lanes mixed_lane mix permute step next_sub_message sub_messages sub_message steps forward_steps forward opening
opening512 = refl
