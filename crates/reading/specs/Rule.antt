-- The number of each rule in the tables of refusals of documents 01 and 02.
-- Assumes nothing.
use Rattle.std.specs.Prelude.{ℕ}
use Rattle.reading.specs.declared.Rule.{Rule}
use Rattle.reading.specs.declared.Rule.TheVariants as rule

abbrev pub number_of : Rule → ℕ
number_of rule.Short = 1
number_of rule.Long = 2
number_of rule.Magic = 3
number_of rule.Major = 4
number_of rule.Minor = 5
number_of rule.Entries = 7
number_of rule.Positions = 8
number_of rule.Annotation = 9
number_of rule.IidOrder = 10
number_of rule.Name = 11
number_of rule.Iid = 12
number_of rule.Outside = 13
number_of rule.Reserved = 14
number_of rule.Index = 15
number_of rule.Between = 16
number_of rule.TooMany = 17
number_of rule.KeyTwice = 18
number_of rule.ParentCycle = 19
number_of rule.Question = 20
number_of rule.TwoIids = 21
number_of rule.TwoKeys = 22
number_of rule.TwoDescriptors = 23
number_of rule.UnionCycle = 24
number_of rule.UnionEntries = 25
number_of rule.OutputLimit = 26
number_of rule.Room = 27
number_of rule.Cut = 29
number_of rule.Added = 30
number_of rule.TypesHeader = 31
number_of rule.TypesField = 32
number_of rule.TypesPayload = 33
number_of rule.TypesValue = 34
number_of rule.TypesKeyTwice = 35
number_of rule.TypesNesting = 36
number_of rule.TypesEntries = 37
number_of rule.Reports = 38
