-- A seat that is lent to another seat as its witness comes back.
use Rattle.std.proofs.lemmas.List.{map-append}
use Rattle.hold_table.proofs.Names.{◌≡◌, List, [], ◌∷◌, ◌++◌, map, sym, ap, ◌∙◌, TableId, SeatGroup, AtomicSeat, first_of, others_of, TableSeat, seat_beside, table_seat, lone}

-- what contracts see of a seat of `atomic_table`
abbrev seen : TableId → AtomicSeat → TableSeat
seen t me = seat_beside t (first_of me.0).view (first_of me.0).made (others_of me.0)

-- the first witness of a seat, split off, is the seat that was lent
pub comes_back : {t u : TableId} {me : AtomicSeat} (lent : AtomicSeat) {c gs : SeatGroup} {o : TableSeat} → me ≡ (first_of c ∷ [], []) → c ≡ first_of lent.0 ∷ gs → t ≡ u
    → seen u lent ≡ o → seen t me ≡ lone o
comes_back {t} lent split is same o = ap (seen t) split ∙ ap (λ (g : SeatGroup). table_seat t (first_of g).view (first_of g).made) is
    ∙ ap (λ (a : TableId). table_seat a (first_of lent.0).view (first_of lent.0).made) same ∙ ap lone o

-- the last of some seats was lent, and is put back behind the others
pub put_back : {before now after : List TableSeat} (rest : List TableSeat) (o : TableSeat) {s : TableSeat} → before ≡ rest ++ o ∷ [] → now ≡ map lone rest → after ≡ now ++ s ∷ [] → s ≡ lone o
    → after ≡ map lone before
put_back rest o {s} was others pushed back = pushed ∙ ap (λ (l : List TableSeat). l ++ s ∷ []) others ∙ ap (λ (a : TableSeat). map lone rest ++ a ∷ []) back
    ∙ sym (map-append lone rest (o ∷ [])) ∙ ap (map lone) (sym was)
