-- A run of the code (01, Whole runs): "A run is any list of adds, replacements, removals and undos, refused ones included"; "links count
-- as edits" (02, P8).
-- Each call holds what the contract of that very function tells its caller: `Learnt` is what the checker makes of the function's `ensures`, at its
-- arguments, its answer and what it left. So a contract that says less makes another type here, and DemandThree fails.
use mathlib.Core.Path.{◌≡◌}
use Prim.Native.Nat.{ℕ}
use mathlib.Core.List.{List, [], ◌∷◌}
use denote.Ref.{Bor, MutBor}
use contract.Lifetimes.{Lfts}
use denote.Triple.Clauses.{AtExit}
use borrow.Fn.World.{ArgsD, ResD}
use borrow.Fn.Kinds.{ParamKind, ResultKind, sig_of, ended_of, GoodsP}
use Rattle.blorb.specs.Bytes.{rd32}
use Rattle.edits.specs.Edit.{add, replace, remove, link}
use Rattle.edits.specs.Run.{State, Call, edit, undo}
use Rattle.edits.specs.Run.{state}
use Rattle.editor.specs.Runs.{Turn, state_after}
use Rattle.editor.proofs.add.Kinds as add-kinds
use Rattle.editor.proofs.add.Reads as add_reads
use Rattle.editor.proofs.replace.Kinds as replace-kinds
use Rattle.editor.proofs.replace.Reads as replace_reads
use Rattle.editor.proofs.remove.Kinds as remove-kinds
use Rattle.editor.proofs.remove.Reads as remove-reads
use Rattle.editor.proofs.link.Kinds as link-kinds
use Rattle.editor.proofs.link.Reads as link_reads
use Rattle.editor.proofs.undo.Kinds as undo-kinds
use Rattle.editor.proofs.undo.Reads as undo-reads

-- a call of a function with n lifetimes, parameters ps, result r and this contract
pub record CallOf (n : ℕ) (ps : List (ParamKind n)) (r : ResultKind n)
    (Learnt : (κs : Lfts n) → ArgsD (sig_of n ps r) κs → ResD (sig_of n ps r) κs → AtExit (ended_of n ps r) κs → Type 0) : Type 0 where
  pub lifetimes : Lfts n
  pub given : ArgsD (sig_of n ps r) lifetimes
  pub answer : ResD (sig_of n ps r) lifetimes
  pub left : AtExit (ended_of n ps r) lifetimes
  -- the arguments are values of the parameters' types: a `u32` is below 2 ^ 32, a `[u8; 4]` is four bytes
  pub typed : GoodsP lifetimes ps given
  pub told : Learnt lifetimes given answer left

pub data Act : Type 0 where
  by_add : CallOf 3 add-kinds.ps add-kinds.r add_reads.Learnt → Act
  by_replace : CallOf 3 replace-kinds.ps replace-kinds.r replace_reads.Learnt → Act
  by_remove : CallOf 2 remove-kinds.ps remove-kinds.r remove-reads.Learnt → Act
  by_link : CallOf 2 link-kinds.ps link-kinds.r link_reads.Learnt → Act
  by_undo : CallOf 2 undo-kinds.ps undo-kinds.r undo-reads.Learnt → Act

-- the first four parameters of each function: what it is lent and given; the fifth is the profile. An undo is lent the journal to read only.
abbrev pub lent : {X : Type 0} → MutBor (List ℕ) × (ℕ × (MutBor (List ℕ) × (ℕ × X))) → State
lent (buf, (len, (jrn, (used, rest)))) = state buf.now len jrn.now used

abbrev pub lent_to_undo : {X : Type 0} → MutBor (List ℕ) × (ℕ × (Bor (List ℕ) × (ℕ × X))) → State
lent_to_undo (buf, (len, (jrn, (used, rest)))) = state buf.now len jrn.now used

abbrev pub profiled : {J X : Type 0} → MutBor (List ℕ) × (ℕ × (J × (ℕ × (ℕ × X)))) → ℕ
profiled (buf, (len, (jrn, (used, (profile, rest))))) = profile

abbrev pub state_of : Act → State
state_of (by_add x) = lent x.given
state_of (by_replace x) = lent x.given
state_of (by_remove x) = lent x.given
state_of (by_link x) = lent x.given
state_of (by_undo x) = lent_to_undo x.given

abbrev pub profile_of : Act → ℕ
profile_of (by_add x) = profiled x.given
profile_of (by_replace x) = profiled x.given
profile_of (by_remove x) = profiled x.given
profile_of (by_link x) = profiled x.given
profile_of (by_undo x) = profiled x.given

-- what was asked: usages and types "are given to calls as their four bytes"
abbrev pub call_of : Act → Call
call_of (by_add x) =
    let (buf, (len, (jrn, (used, (profile, (usage, (number, (kind, (d, end))))))))) = x.given in
    edit (add (rd32 usage) number (rd32 kind) d.now)
call_of (by_replace x) =
    let (buf, (len, (jrn, (used, (profile, (usage, (number, (kind, (d, end))))))))) = x.given in
    edit (replace (rd32 usage) number (rd32 kind) d.now)
call_of (by_remove x) =
    let (buf, (len, (jrn, (used, (profile, (usage, (number, end))))))) = x.given in
    edit (remove (rd32 usage) number)
call_of (by_link x) =
    let (buf, (len, (jrn, (used, (profile, (usage, (number, (new, (chosen, end))))))))) = x.given in
    edit (link (rd32 usage) number (rd32 new) chosen)
call_of (by_undo x) = undo

-- the call, its answer and the two buffers afterwards; an undo is lent the journal to read only
abbrev pub turn_of : Act → Turn
turn_of (by_add x) =
    let (buf, (len, (jrn, rest))) = x.left in
    record { call = call_of (by_add x); answer = x.answer; buffer = buf.now; journal = jrn.now }
turn_of (by_replace x) =
    let (buf, (len, (jrn, rest))) = x.left in
    record { call = call_of (by_replace x); answer = x.answer; buffer = buf.now; journal = jrn.now }
turn_of (by_remove x) =
    let (buf, (len, (jrn, rest))) = x.left in
    record { call = call_of (by_remove x); answer = x.answer; buffer = buf.now; journal = jrn.now }
turn_of (by_link x) =
    let (buf, (len, (jrn, rest))) = x.left in
    record { call = call_of (by_link x); answer = x.answer; buffer = buf.now; journal = jrn.now }
turn_of (by_undo x) =
    let (buf, rest) = x.left in
    record { call = call_of (by_undo x); answer = x.answer; buffer = buf.now; journal = (state_of (by_undo x)).journal }

-- "Every call is lent the same two whole buffers and given the L and U last handed back." "One known profile for the whole run" (02, P12).
abbrev pub Follows : (profile : ℕ) → State → List Act → Type 0
Follows profile s [] = Unit {0}
Follows profile s (x ∷ xs) = (state_of x ≡ s) × (profile_of x ≡ profile) × Follows profile (state_after (turn_of x)) xs
