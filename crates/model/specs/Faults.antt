-- The number of docs/FORMAT.md for each fault, and what an answer of the code is: a refusal's number, or what it shows.
use Rattle.std.specs.Prelude.{ℕ}
use Rattle.model.specs.declared.fault.Fault.{Fault}
use Rattle.model.specs.declared.fault.Fault.TheVariants.{ShortLine, UnknownFirstField, BadTypedField, BadSubgraphField, BadTranslationField, BadNameLine, BadSubgraphLine, BadTranslationLine, BadSubgraphRelation, BadTranslationRelation, LongName, NamesFull, PairsFull, BodiesFull, WrongBuffer, NotARecord, OutputShort, LongDesc, BadKey, LongValue, TagsFull, NotATagList}

abbrev pub fault_number : Fault → ℕ
fault_number ShortLine = 1
fault_number UnknownFirstField = 2
fault_number BadTypedField = 3
fault_number BadSubgraphField = 4
fault_number BadTranslationField = 5
fault_number BadNameLine = 6
fault_number BadSubgraphLine = 7
fault_number BadTranslationLine = 8
fault_number BadSubgraphRelation = 9
fault_number BadTranslationRelation = 10
fault_number LongName = 11
fault_number NamesFull = 12
fault_number PairsFull = 13
fault_number BodiesFull = 14
fault_number WrongBuffer = 15
fault_number NotARecord = 16
fault_number OutputShort = 17
fault_number LongDesc = 18
fault_number BadKey = 19
fault_number LongValue = 20
fault_number TagsFull = 21
fault_number NotATagList = 29
