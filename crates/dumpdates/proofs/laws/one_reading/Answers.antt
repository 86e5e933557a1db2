use Rattle.dumpdates.proofs.Decided.{some_reading, spelled_entries}
use Rattle.dumpdates.proofs.Once.{one_text, spelled_no_fault, one_fault}
use Rattle.dumpdates.proofs.laws.one_reading.Goals as goal

pub returns-clause-some : goal.returns-clause-some
returns-clause-some c = some_reading

pub returns-clause-within : goal.returns-clause-within
returns-clause-within c = spelled_entries

pub returns-clause-entries : goal.returns-clause-entries
returns-clause-entries c = λ bytes entries others s t. one_text bytes entries s others t

pub returns-clause-no_fault : goal.returns-clause-no_fault
returns-clause-no_fault c = spelled_no_fault

pub returns-clause-fault : goal.returns-clause-fault
returns-clause-fault c = one_fault
