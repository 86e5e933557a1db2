use Rattle.tape.proofs.Words.{◌≡◌, refl, arith, Nothing, Done, Fault, BadOperation, nat_tests, op_request, Unknown, medium_kind_of}
use Rattle.tape.proofs.ReelCalls.{none_call}
use Rattle.tape.proofs.file_reel.FileReelReel.op.Goals as goal

pub returns-in-0 : goal.returns-in-0
returns-in-0 g c = rw c.in-0.is c.write_marks.ensures

pub returns-in-1 : goal.returns-in-1
returns-in-1 g c = rw c.in-1.is c.space_files.ensures

pub returns-in-2 : goal.returns-in-2
returns-in-2 g c = rw c.in-2.is c.space_files-in-2.ensures

pub returns-in-3 : goal.returns-in-3
returns-in-3 g c = rw c.in-3.is c.space_records.ensures

pub returns-in-4 : goal.returns-in-4
returns-in-4 g c = rw c.in-4.is c.space_records-in-4.ensures

pub returns-in-5 : goal.returns-in-5
returns-in-5 g c = rw c.in-5.is c.rewind.ensures

pub returns-in-7 : goal.returns-in-7
returns-in-7 g c =
    rw c.in-7.is (none_call (medium_kind_of g.M.Medium) c.args.self.now Nothing Done (λ is. cc) (λ is. cc) refl (λ is. refl) (λ t at. refl))

pub returns-in_default : goal.returns-in_default
returns-in_default g c =
    let h = c.in_default in
    let e : op_request c.args.op c.args.count ≡ Unknown = grind (arith, nat_tests) in
    rw e (none_call (medium_kind_of g.M.Medium) c.args.self.now Unknown (Fault BadOperation) (λ is. cc) (λ is. cc) refl (λ is. cc) (λ t at. refl))
