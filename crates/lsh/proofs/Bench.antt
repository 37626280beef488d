-- The bench checks P1 to P12 of document 01 hold of the definition, by a single computation.
-- Assumes nothing.
use mathlib.Core.Path.{◌≡◌, refl}
use Rattle.lsh.specs.Tabulate.{tabulate, tabulate_from}
use Rattle.lsh.specs.Word.{add, subtract, turn, rotate_left, rotate_right, xor}
use Rattle.lsh.specs.WordSize.{lsh256, lsh512, block_bytes, alpha, beta, gamma, tau, sigma}
use Rattle.lsh.specs.StepConstants.{constant}
use Rattle.lsh.specs.Lane.{mix_lane, unmix_lane}
use Rattle.lsh.specs.Step.{mixed_lane, unmixed_lane, permute}
use Rattle.lsh.specs.Expansion.{next_sub_message, sub_messages, sub_message}
use Rattle.lsh.specs.Bits.{bit, bits_of_byte, bits_of, number_of, bytes_of_bits}
use Rattle.lsh.specs.Padding.{block_bits, block_count, padded}
use Rattle.lsh.specs.Bench.{founds, wanteds, words_of_lane, up_to, three_words, carry, padded_bytes, checks}

pub bench : founds checks ≡ wanteds checks
unfolding founds wanteds words_of_lane up_to three_words carry padded_bytes checks add subtract turn rotate_left rotate_right xor lsh256 lsh512 block_bytes alpha beta gamma tau sigma constant mix_lane unmix_lane mixed_lane unmixed_lane permute next_sub_message sub_messages sub_message tabulate tabulate_from bit bits_of_byte bits_of number_of bytes_of_bits block_bits block_count padded
bench = refl
