use Rattle.rdump_net.proofs.Keeping.{dump_printed, kept_talks}
use Rattle.rdump_net.proofs.kept.dump.Goals as goal

pub returns : goal.returns
returns g c =
    let h = c.dump_to_conclusion-end.ensures.kept in
    record {
      talks = record {
        same = h.same;
        talked = λ fed has.
            let one = h.kept fed has in
            record { passed = one.has.passed; later = one.has.later; talks = kept_talks one.has.dumped; keeps = one.has.keeps; logs = one.has.logs };
      };
      printed = dump_printed c.status.ensures c.dump_to_conclusion-end.ensures.able h;
    }
