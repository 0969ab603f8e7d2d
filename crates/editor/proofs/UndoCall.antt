-- An undo's promise, from its plan.
use mathlib.Core.Path.{◌≡◌, refl, sym}
use Prim.Native.Nat.{ℕ, ◌+◌, ◌-◌}
use mathlib.Core.List.{List}
use lib.ListN.{length, take}
use Rattle.blorb.specs.Rules.{rules_of}
use Rattle.blorb.specs.All.{All}
use Rattle.blorb.specs.Bytes.{Byte}
use Rattle.edits.specs.Run.{undo, fault, after, after_undo, undone_file, written}
use Rattle.std.specs.Prelude.{Ok, Err}
use Rattle.blorb.specs.declared.refusal.Refusal.{Refusal}
use Rattle.undoing.specs.declared.Undoing.{Undoing}
use Rattle.editor.specs.Post.{refused_with, done_with}
use Rattle.edits.specs.Run.{state}
use Rattle.editor.specs.Called.{Called}
use Rattle.undoing.specs.UndoPlan.{undo_plan_of}
use Rattle.editor.proofs.CallLaws.{called_refused, called_done}
use Rattle.editor.proofs.UndoBack.{Ready, ready, plan_not}

pub undo-refused : (profile : ℕ) (b : List ℕ) (l : ℕ) (j : List ℕ) (u : ℕ) (y : Refusal) → undo_plan_of profile b l j u ≡ Err y
    → Called profile (state b l j u) undo (refused_with y.0 y.1 l u) b j
unfolding undo_plan_of
undo-refused profile b l j u y e =
    called_refused profile (state b l j u) undo y.0 y.1 (plan_not (fault (rules_of profile) (state b l j u) undo) (take l b) (take u j) y e)

module _ (profile : ℕ) (b : List ℕ) (l : ℕ) (j : List ℕ) (u : ℕ) (w : Undoing) (bytes : All Byte b) (e : undo_plan_of profile b l j u ≡ Ok w) where
  pub going : Ready profile b l j u w.count w.at w.size w.to w.last
  going = ready profile b l j u w.count w.at w.size w.to w.last bytes e

  pub undo-done : (x : List ℕ) → x ≡ written b l (undone_file (take l b) (take u j))
      → Called profile (state b l j u) undo (done_with w.to (u - (29 + w.last.length))) x j
  unfolding after after_undo
  undo-done x h = called_done profile (state b l j u) undo w.to (u - (29 + w.last.length)) x j going.unrefused going.to_is (sym (going.ends.back b l)) h refl
