-- 02, P13: "Two of us corrected different pictures." Two sentences about the calls of a run, proved in proofs/TwoEditors over any rules, and in the
-- crate editor of its running code (editor/proofs/TwoEditors).
--
-- 1. "Replacing two different resources in either order, where all four calls succeed, gives the same file." From one state, two calls in one order
--    and the same two in the other; if none of the four is refused, both ends have the same L and the same first L bytes (`EitherOrder`).
--    Not claimed: the journals, whose records stand in the order of the calls and may have other starts; and the buffer's bytes past L, where the one
--    order may leave zeros and the other what was there. Not claimed either where a call is refused: in a tight buffer one order may go through and
--    the other not (24).
--    Different resources are different pairs of usage and number. Two names of one chunk cannot come up: both replacements are refused with 23.
--    Beyond the request, the second call may be any edit that names other resources than the first (`NamesOther`); and of two replacements of one
--    resource the later one alone is left (`LaterWins`), so their order matters unless both give the same.
--    Samples of all this, and of what is not claimed: samples/proofs/TwoEditors.
-- 2. "After any run the file's length is its starting length plus, for each edit not taken back, its own change" (`LengthAfter`). A run is any list
--    of calls from an accepted file and an empty journal (`Begins`), refused ones and undos among them; the edits not taken back are the ledger's
--    list at its end.
use Rattle.std.specs.Prelude.{◌≡◌, ℕ, ◌+◌, ◌%◌, List, [], ◌∷◌, cond, length}
use Rattle.blorb.specs.Format.{Chunk}
use Rattle.blorb.specs.Verdict.{Rules, accept}
use Rattle.blorb.specs.Model.{Model, model}
use Rattle.blorb.specs.Queries.{find, ref_at, chunk_at, shared}
use Rattle.edits.specs.Edit.{Edit, add, replace, remove, link, given_chunk}
use Rattle.edits.specs.Run.{State, file_in, Call, fault, step, run, ledger_file}
use Rattle.edits.specs.Demand3.{list_after}

-- two states hold the same file, whatever their journals and the bytes past it
pub record SameFile (s t : State) : Type 0 where
  pub same_length : s.L ≡ t.L
  pub same_bytes : file_in s ≡ file_in t

-- (u, n) and (v, o) are different resources: not the same usage with the same number
abbrev pub Other : ℕ → ℕ → ℕ → ℕ → Type 0
Other u n v o = u ≡ v → n ≡ o → ⊥

-- an edit that names other resources than (u, n); a link names its original and its new entry
abbrev pub NamesOther : ℕ → ℕ → Edit → Type 0
NamesOther u n (add v o t d) = Other u n v o
NamesOther u n (replace v o t d) = Other u n v o
NamesOther u n (remove v o) = Other u n v o
NamesOther u n (link v o w p) = Other u n v o × Other u n w p

-- "in either order, where all four calls succeed": from one state, each order having its own two calls
pub record BothOrders (R : Rules) (s : State) (a b : Call) : Type 0 where
  pub a_first : fault R s a ≡ accept
  pub then_b : fault R (step R s a) b ≡ accept
  pub b_first : fault R s b ≡ accept
  pub then_a : fault R (step R s b) a ≡ accept

-- "gives the same file"
abbrev pub EitherOrder : Rules → State → Call → Call → Type 0
EitherOrder R s a b = SameFile (run R s (a ∷ (b ∷ []))) (run R s (b ∷ (a ∷ [])))

-- after a and then b the file is that after b alone
abbrev pub LaterWins : Rules → State → Call → Call → Type 0
LaterWins R s a b = SameFile (run R s (a ∷ (b ∷ []))) (run R s (b ∷ []))

-- "data as the chunk holds it", padded: of a whole file given as 'FORM' the chunk holds 8 bytes less than were given (02, P3)
unfoldable pub padded : Chunk → ℕ
padded c = length c.body + length c.body % 2

-- the chunk of the entry (u, n)
abbrev pub chunk_named : Model → ℕ → ℕ → Chunk
chunk_named m u n = chunk_at m (ref_at m (find u n m.refs)).chunk

-- An edit's own change, in two numbers so that nothing is cut off at 0: what it adds to the length of the file that holds m, and what it takes from
-- it. "20 with padded data for an add, 12 for a link, the difference of padded data for a replacement, less 12 for a removal and less 8 with padded
-- data besides if the chunk went": it goes where no other entry shares it.
unfoldable pub grows : Model → Edit → ℕ
grows m (add u n t d) = 20 + padded (given_chunk t d)
grows m (link v o u n) = 12
grows m (replace u n t d) = padded (given_chunk t d)
grows m (remove u n) = 0

unfoldable pub falls : Model → Edit → ℕ
falls m (add u n t d) = 0
falls m (link v o u n) = 0
falls m (replace u n t d) = padded (chunk_named m u n)
falls m (remove u n) = 12 + cond (shared m (find u n m.refs)) 0 (8 + padded (chunk_named m u n))

-- the sums over a ledger's list, each edit on the file that the edits before it in time have made of f₀ (the list has the last one first)
module _ (f₀ : List ℕ) where
  unfoldable pub grown : List Edit → ℕ
  grown [] = 0
  grown (e ∷ es) = grown es + grows (model (ledger_file f₀ es)) e

  unfoldable pub shrunk : List Edit → ℕ
  shrunk [] = 0
  shrunk (e ∷ es) = shrunk es + falls (model (ledger_file f₀ es)) e

-- the length L is that of s plus, for each edit of the list, its own change: with what was taken on the left
abbrev pub LengthIs : ℕ → State → List Edit → Type 0
LengthIs L s es = L + shrunk (file_in s) es ≡ s.L + grown (file_in s) es

-- "after any run the file's length is its starting length plus, for each edit not taken back, its own change"
abbrev pub LengthAfter : Rules → State → List Call → Type 0
LengthAfter R s cs = LengthIs (run R s cs).L s (list_after R s cs)
