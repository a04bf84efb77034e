-- The number of each call. tools/calls writes this file from include/calls.list.
--
--   number_of       a call's number
--   Decodes         what a number is read as
use Rattle.std.specs.Prelude.{ℕ, ◌≡◌, ◌≤◌, Result, Ok, Err}
use Rattle.samples_names.specs.declared.TablesCall.{TablesCall}
use Rattle.samples_names.specs.declared.TypesCall.{TypesCall}
use Rattle.samples_names.specs.declared.WordTypesCall.{WordTypesCall}
use Rattle.samples_names.specs.declared.ViewsCall.{ViewsCall}
use Rattle.samples_names.specs.declared.ComparingCall.{ComparingCall}
use Rattle.samples_names.specs.declared.LengthsCall.{LengthsCall}
use Rattle.samples_names.specs.declared.ConstructorsCall.{ConstructorsCall}
use Rattle.samples_names.specs.declared.WordsCall.{WordsCall}
use Rattle.samples_names.specs.declared.JoinsCall.{JoinsCall}
use Rattle.samples_names.specs.declared.BuffersCall.{BuffersCall}
use Rattle.samples_names.specs.declared.CodecsCall.{CodecsCall}
use Rattle.samples_names.specs.declared.CutsCall.{CutsCall}
use Rattle.samples_names.specs.declared.Call.{Call}
use Rattle.samples_names.specs.declared.NoCall.{NoCall}

-- As in the list.
abbrev pub number_of : Call → ℕ
number_of (Call.Tables TablesCall.ReadTable) = 0
number_of (Call.Tables TablesCall.FillFacts) = 1
number_of (Call.Tables TablesCall.CheckTable) = 2
number_of (Call.Types TypesCall.FactsOf) = 3
number_of (Call.Types TypesCall.SameType) = 4
number_of (Call.Types TypesCall.IsUnit) = 5
number_of (Call.Types TypesCall.IsEmpty) = 6
number_of (Call.Types TypesCall.TypeAsSum) = 7
number_of (Call.Types TypesCall.TypeAsProduct) = 8
number_of (Call.Types TypesCall.PadLeft) = 9
number_of (Call.Types TypesCall.PadRight) = 10
number_of (Call.WordTypes WordTypesCall.AsWord) = 11
number_of (Call.WordTypes WordTypesCall.WordWidth) = 12
number_of (Call.WordTypes WordTypesCall.BufferWidth) = 13
number_of (Call.WordTypes WordTypesCall.IsBuffer8) = 14
number_of (Call.WordTypes WordTypesCall.IsCtx8) = 15
number_of (Call.Views ViewsCall.AsLeft) = 16
number_of (Call.Views ViewsCall.AsRight) = 17
number_of (Call.Views ViewsCall.AsProduct) = 18
number_of (Call.Comparing ComparingCall.Equal) = 19
number_of (Call.Comparing ComparingCall.Compare) = 20
number_of (Call.Lengths LengthsCall.CompactLen) = 21
number_of (Call.Lengths LengthsCall.PaddedLen) = 22
number_of (Call.Constructors ConstructorsCall.Unit) = 23
number_of (Call.Constructors ConstructorsCall.Left) = 24
number_of (Call.Constructors ConstructorsCall.Right) = 25
number_of (Call.Constructors ConstructorsCall.Product) = 26
number_of (Call.Constructors ConstructorsCall.None) = 27
number_of (Call.Constructors ConstructorsCall.Some) = 28
number_of (Call.Constructors ConstructorsCall.Zero) = 29
number_of (Call.Words WordsCall.U1) = 30
number_of (Call.Words WordsCall.U2) = 31
number_of (Call.Words WordsCall.U4) = 32
number_of (Call.Words WordsCall.U8) = 33
number_of (Call.Words WordsCall.U16) = 34
number_of (Call.Words WordsCall.U32) = 35
number_of (Call.Words WordsCall.U64) = 36
number_of (Call.Words WordsCall.U128) = 37
number_of (Call.Words WordsCall.U256) = 38
number_of (Call.Words WordsCall.U512) = 39
number_of (Call.Words WordsCall.FromByteArray) = 40
number_of (Call.Joins JoinsCall.WordProduct) = 41
number_of (Call.Joins JoinsCall.WordFromBits) = 42
number_of (Call.Buffers BuffersCall.Buffer8TwoNPlusOne) = 43
number_of (Call.Buffers BuffersCall.Ctx8) = 44
number_of (Call.Codecs CodecsCall.FromCompactBits) = 45
number_of (Call.Codecs CodecsCall.FromPaddedBits) = 46
number_of (Call.Codecs CodecsCall.ToCompactBits) = 47
number_of (Call.Codecs CodecsCall.ToPaddedBits) = 48
number_of (Call.Cuts CutsCall.Prune) = 49

-- A number is read as the call that has it, and as none only where no call has it.
abbrev pub Decodes : ℕ → Result Call NoCall → Type 0
Decodes number (Ok call) = number_of call ≡ number
Decodes number (Err none) = 50 ≤ number
