-- `files::write_columns` meets its contract: a file with no fault has a count and nodes that no call refuses, its columns reach the count, and each
-- node takes its place in them. Assumes nothing.
use Rattle.std.proofs.Common.{rules, ◌≡◌, ℕ, ◌<◌, ◌≤◌, List, length, Result, Ok, Err, IsOk, refl, ap, sym, ◌∙◌, arith}
use Rattle.meaning.specs.Tables.{columns, count_right}
use Rattle.meaning.specs.Files.{number, entry_from, entries_from, table_in}
use Rattle.meaning.specs.TypeCalls.{entries_in, entries_written}
use Rattle.meaning.specs.Ladder.{accepted}
use denote.Enum.Declared.{tag_of}
use Rattle.tables.specs.contracts.Kind.{the_type}
use Rattle.tables.specs.declared.Kind.{Kind}
use Rattle.tables.specs.Kinds.{kind_no}
use Rattle.files_numbers.specs.declared.Fault.{Fault}
use Rattle.files_numbers.specs.Places.{Place, front}
use Rattle.files_numbers.specs.Readings.{answer_of}
use Rattle.files.specs.declared.Entry.{Entry}
use Rattle.files.specs.Readings.{entry_of, node_of, file_verdict, Readable}
use Rattle.files.proofs.Entries.{ReadUpTo, first_nodes, read_none, read_more, more_nodes, read_length}
use Rattle.files.proofs.Columns.{written_more}
use Rattle.files.proofs.Whole.{Counted, counted, verdict_count, verdict_node, sound_count, sound_nodes}
use Rattle.files.proofs.write_columns.Goals as goal

-- A kind is written as its number.
number_of : (k : Kind) → tag_of the_type k ≡ kind_no k
number_of Kind.Unit = refl
number_of Kind.Sum = refl
number_of Kind.Product = refl

-- A file with no fault has a count.
has_count : (file : List ℕ) (k : ℕ) (first : Place) → file_verdict (table_in file) ≡ accepted k → first ≡ front file
    → (r : Result ℕ Fault) → r ≡ answer_of (number count_right first.file first.at) → IsOk r
has_count file k first sound new (Ok n) e = search rules
has_count file k first sound new (Err f) e = cc (verdict_count file first f new e)

-- None of its nodes is at fault.
has_node : (file : List ℕ) (k count n : ℕ) (start now : Place) → file_verdict (table_in file) ≡ accepted k → Counted file count start
    → ReadUpTo start n now → n < count → (r : Result Entry Fault) → node_of r ≡ answer_of (entry_from now.file n now.at) → IsOk r
has_node file k count n start now sound c r h (Ok x) e = search rules
has_node file k count n start now sound c r h (Err f) e =
    cc (verdict_node file count start c n now f r h e)

-- The nodes of a file with no fault are as many as its count, so its columns reach it.
reach : (file k l r : List ℕ) (count : ℕ) (start : Place) → Readable file k l r → Counted file count start → (count ≤ length k) × (count ≤ length l) × (count ≤ length r)
reach file k l r count start ok c =
    let e = sound_count file count start c (length (entries_in (table_in file))) ok.no_fault in
    (omega (arith, ok.kinds_reach), omega (arith, ok.lefts_reach), omega (arith, ok.rights_reach))

-- When all are read, these are the nodes of the file.
all_read : (file : List ℕ) (k count n : ℕ) (start : Place) → file_verdict (table_in file) ≡ accepted k → Counted file count start → n ≡ count
    → first_nodes start n ≡ entries_in (table_in file)
all_read file k count n start sound c e = ap (first_nodes start) e ∙ sym (sound_nodes file count start c k sound)

pub unwrap-count-requires : goal.unwrap-count-requires
unwrap-count-requires c = has_count _ _ _ c.requires.no_fault c.new-reader.ensures _ c.count.ensures.answer

pub loop-n-init : goal.loop-n-init
unfolding entries_from
loop-n-init c = record {
  counted = counted _ _ _ _ c.new-reader.ensures (sym c.unwrap-count.ensures ∙ c.count.ensures.answer) c.count.ensures.after;
  read = read_none _;
  written = refl;
}

pub unwrap-entry-requires : goal.unwrap-entry-requires
unwrap-entry-requires c =
    has_node _ _ _ _ _ _ c.requires.no_fault c.loop-n.invariant.counted c.loop-n.invariant.read c.loop-n-test.true _ c.next_node.ensures.answer

pub bounds-kinds-n : goal.bounds-kinds-n
bounds-kinds-n c =
    omega (arith, reach _ _ _ _ _ _ c.requires c.loop-n.invariant.counted)

pub bounds-lefts-n : goal.bounds-lefts-n
bounds-lefts-n c =
    omega (arith, reach _ _ _ _ _ _ c.requires c.loop-n.invariant.counted)

pub bounds-rights-n : goal.bounds-rights-n
bounds-rights-n c =
    omega (arith, reach _ _ _ _ _ _ c.requires c.loop-n.invariant.counted)

pub loop-n-preserved : goal.loop-n-preserved
loop-n-preserved c =
    let far = reach _ _ _ _ _ _ c.requires c.loop-n.invariant.counted in
    let so_far = c.loop-n.invariant.read in
    let told = ap node_of (sym c.unwrap-entry.ensures) ∙ c.next_node.ensures.answer in
    record {
      counted = c.loop-n.invariant.counted;
      read = read_more _ _ _ so_far _ _ told c.next_node.ensures.after;
      written =
          rw (number_of c.unwrap-entry.result.kind)
          (written_more _ (entry_of c.unwrap-entry.result) _ _ _ c.loop-n.invariant.written (read_length _ _ _ so_far) (omega arith) (omega arith) (omega arith)
          ∙ ap (λ es. entries_written es (columns c.args.kinds.now c.args.lefts.now c.args.rights.now))
          (sym (more_nodes _ _ _ so_far _ _ told c.next_node.ensures.after)));
    }

pub returns : goal.returns
returns c =
    c.loop-n.invariant.written
    ∙ ap (λ es. entries_written es (columns c.args.kinds.now c.args.lefts.now c.args.rights.now)) (all_read _ _ _ c.loop-n.n _ c.requires.no_fault c.loop-n.invariant.counted (omega arith))
