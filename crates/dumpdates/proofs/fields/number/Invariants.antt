use Rattle.dumpdates.proofs.Terms.{◌≡◌, ◌≤◌, length, take, AllDigits, digits_value}
use Rattle.dumpdates.proofs.fields.number.Given as goal

-- the digits so far and their value
abbrev pub invariant-loop-byte : goal.invariant-loop-byte
invariant-loop-byte l = record {
  digits : AllDigits 10 (take l.byte-index l.text);
  value : l.value ≡ digits_value 10 (take l.byte-index l.text);
  few : length l.text ≤ l.most;
}
