-- Demand 3, of the code: "For every list of edits and undos from an accepted file and an empty journal, refused calls included, the state and
-- every answer are the ledger's", with "one known profile for the whole run, its starting file accepted under it" (02, P12). Read Acts for what a run of the
-- code is, edits/specs/Demand3 for where one begins, specs/Runs for `AsLedger`
-- and edits/specs/Run for the ledger. It holds since the contract of each function is `Called`, and Runs has demand 3 for whatever is `Called`.
use mathlib.Core.Path.{subst}
use Prim.Native.Nat.{ℕ, ◌<◌}
use mathlib.Core.List.{List, [], ◌∷◌, map}
use mir.Syntax.{w8}
use mir.Val.{Val}
use denote.Shadow.{shadow}
use denote.Laws.{Is}
use denote.Plain.{UInt}
use denote.Array.{Array, each}
use Rattle.blorb.specs.All.{All}
use Rattle.blorb.specs.Bytes.{rd32, Byte}
use Rattle.blorb.specs.Rules.{rules_of}
use Rattle.blorb.proofs.Accept.{rd32_small}
use Rattle.edits.specs.Run.{State, CallOk}
use Rattle.edits.specs.Demand3.{Begins}
use Rattle.editor.specs.Called.{Called}
use Rattle.editor.specs.Runs as runs
use Rattle.editor.specs.Runs.{Turn, state_after, Ran, AsLedger}
use Rattle.editor.proofs.Runs.{runs_as_ledger}
use Rattle.editor.proofs.Acts.{Act, by_add, by_replace, by_remove, by_link, by_undo, state_of, profile_of, turn_of, Follows}

-- each function's contract is `Called`
abbrev pub Kept : (profile : ℕ) → State → Turn → Type 0
Kept profile s t = Called profile s t.call t.answer t.buffer t.journal

pub called : (x : Act) → Kept (profile_of x) (state_of x) (turn_of x)
called (by_add x) = x.told
called (by_replace x) = x.told
called (by_remove x) = x.told
called (by_link x) = x.told
called (by_undo x) = x.told

-- the arguments' types bound their values: the elements of a `[u8; 4]` are bytes, so the number in it has 32 bits
elements : (xs : List ℕ) (us : List Val) → shadow (each ℕ (UInt w8).own_val xs us) → All Byte xs
elements [] us h = tt
elements (x ∷ xs) [] h = absurd h
elements (x ∷ xs) (u ∷ us) h = (h.0.1, elements xs us h.1)

four : (xs : List ℕ) (vs : List Val) → Is (Array (UInt w8) 4) xs vs → rd32 xs < 4294967296
four xs vs h = rd32_small xs (elements xs h.0 h.1.1)

pub bounded : (x : Act) → CallOk (turn_of x).call
bounded (by_add x) = let (b, (l, (j, (u, (p, (usage, (number, (kind, rest)))))))) = x.typed in (four _ _ usage, number.1, four _ _ kind)
bounded (by_replace x) = let (b, (l, (j, (u, (p, (usage, (number, (kind, rest)))))))) = x.typed in (four _ _ usage, number.1, four _ _ kind)
bounded (by_remove x) = let (b, (l, (j, (u, (p, (usage, (number, rest))))))) = x.typed in (four _ _ usage, number.1)
bounded (by_link x) = let (b, (l, (j, (u, (p, (usage, (number, (new, (chosen, rest))))))))) = x.typed in (four _ _ usage, number.1, four _ _ new, chosen.1)
bounded (by_undo x) = tt

pub all_bounded : (xs : List Act) → All CallOk (map runs.call_of (map turn_of xs))
all_bounded [] = tt
all_bounded (x ∷ xs) = (bounded x, all_bounded xs)

pub ran : (profile : ℕ) (s : State) (xs : List Act) → Follows profile s xs → Ran profile s (map turn_of xs)
ran profile s [] h = tt
ran profile s (x ∷ xs) h = (
  subst (λ (z : State). Kept profile z (turn_of x)) h.0 (subst (λ (p : ℕ). Kept p (state_of x) (turn_of x)) h.1 (called x)),
  ran profile (state_after (turn_of x)) xs h.2,
)

-- "After every run L and U are the ledger's, the first L bytes of the file buffer are its file, that file is accepted, and the first U bytes of
-- the journal are the records of its list's edits, in order. Each call answered as the ledger did."
pub code_as_ledger : (profile : ℕ) (s : State) (xs : List Act) → Begins (rules_of profile) s → Follows profile s xs → AsLedger profile s (map turn_of xs)
code_as_ledger profile s xs b f = runs_as_ledger profile s (map turn_of xs) b (all_bounded xs) (ran profile s xs f)
