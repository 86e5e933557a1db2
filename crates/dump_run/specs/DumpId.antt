-- The identity of a dump: the values that its run and the labels of its volumes share.
use Rattle.std.specs.Prelude.{◌≡◌, ℕ, ◌≤◌, List}
use Rattle.dumpdates.specs.Entry.{IsName, last_second}

-- the name, level and dates of a dump
pub record PlainId : Type 0 where
  pub name : List ℕ
  pub level : ℕ
  pub date : ℕ
  pub since : ℕ

-- such an id, made of its parts
abbrev pub plain_id : List ℕ → ℕ → ℕ → ℕ → PlainId
plain_id name level date since = record { name = name; level = level; date = date; since = since }

-- the id is within the limits of a run
pub record IsDumpId (d : PlainId) : Type 0 where
  pub name : IsName d.name
  pub level : d.level ≤ 9
  pub date : d.date ≤ last_second
  pub since : d.since ≤ last_second

-- both are the id of one dump
abbrev pub AreOneId : PlainId → PlainId → Type 0
AreOneId d e = (d.name ≡ e.name) × (d.level ≡ e.level) × (d.date ≡ e.date) × (d.since ≡ e.since)
