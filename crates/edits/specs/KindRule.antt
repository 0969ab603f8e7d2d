-- What the code asks of a record's kind, start, type and m, for the contracts inside: no public contract cites it.
use Rattle.std.specs.Prelude.{ℕ, Bool, cond, ◌&&◌, ◌||◌, eqb}

-- "the kind is 1 to 5 and the fields named zero are zero", kind by kind (proofs/LastLaws, kind_rule_lem)
abbrev pub kind_rule : ℕ → ℕ → ℕ → ℕ → Bool
kind_rule k s t m = cond (eqb k 1) (eqb s 0 && (eqb t 0 && eqb m 0)) (cond (eqb k 4 || eqb k 5) (eqb t 0 && eqb m 0) (eqb k 2 || eqb k 3))
