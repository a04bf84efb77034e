-- The paper's example of a report, computed through the definition, one with a padded node, and one of a refusal. Assumes nothing.
use mathlib.Core.Path.{◌≡◌, refl}
use mathlib.Core.List.{[], ◌∷◌}
use Rattle.meaning.specs.Choice.{least, from}
use Rattle.meaning.specs.Types.{same, width, size, padded, least_length}
use Rattle.meaning.specs.Tables.{ty_to, ty_at, class_of}
use Rattle.meaning.specs.Files.{table_in, seven_bit_groups, entry_from, entries_from}
use Rattle.lines_digits.specs.Report.{ascii, digits, lines_to, file_text}

-- Three nodes.
pub three_nodes : file_text (0x03 ∷ 0x00 ∷ 0x01 ∷ 0x00 ∷ 0x00 ∷ 0x02 ∷ 0x01 ∷ 0x01 ∷ [])
    ≡ ascii "nodes 3\n0 unit 0 1 0 0 0\n1 sum 1 3 0 1 1\n2 product 2 7 0 2 2\n"
unfolding file_text digits lines_to least from same width size padded least_length ty_to ty_at class_of table_in seven_bit_groups entry_from entries_from
three_nodes = refl

-- In the paper's example each least compact length is the width. Where a sum's sides have not the same width, it is less.
pub padded_node : file_text (0x03 ∷ 0x00 ∷ 0x01 ∷ 0x00 ∷ 0x00 ∷ 0x01 ∷ 0x00 ∷ 0x01 ∷ [])
    ≡ ascii "nodes 3\n0 unit 0 1 0 0 0\n1 sum 1 3 0 1 1\n2 sum 2 5 1 2 1\n"
unfolding file_text digits lines_to least from same width size padded least_length ty_to ty_at class_of table_in seven_bit_groups entry_from entries_from
padded_node = refl

-- A file that is cut in its second node: the right side is not there.
pub cut_file : file_text (0x02 ∷ 0x00 ∷ 0x01 ∷ 0x00 ∷ []) ≡ ascii "refused 1 at 4\n"
unfolding file_text digits lines_to least from same width size padded least_length ty_to ty_at class_of table_in seven_bit_groups entry_from entries_from
cut_file = refl

-- The largest 64-bit number has twenty digits.
pub largest : digits 20 18446744073709551615 ≡ ascii "18446744073709551615"
unfolding digits
largest = refl
