-- What a comparing sink ends as, where its inner sink is lent. Public contracts cite it.
use Rattle.std.specs.Borrow.{Lends, Fml, RattleType, MutBor}
use Rattle.rdump_fetch.specs.contracts.compared_sink.ComparedSink.{the_row}
use Rattle.rdump_fetch.specs.Comparing.{Compared}

-- the sink with this inner sink in place of its own
abbrev pub with_sink : {S : Type 0} → Compared S → S → Compared S
with_sink s sink = record s { sink = sink }

module _ (T : RattleType) (s : MutBor (Compared T.Denot)) where
  -- once the borrow ends, the sink has the inner sink that the borrower left, and is otherwise
  -- unchanged
  abbrev pub lends_sink : MutBor T.Denot → Fml
  lends_sink r = Lends (the_row T) T s r (with_sink s.now)
