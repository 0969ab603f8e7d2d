-- 52, 20 and the reader's refusals, way by way, and what an inspection tells.
use mathlib.Core.Path.{◌≡◌, refl, ap}
use Prim.Native.Nat.{ℕ, ◌≤◌, ◌<◌}
use mathlib.Core.List.{List}
use mathlib.Core.Bool.{Bool, true, false, ◌&&◌, and-false}
use native.Mathlib.Omega.{arith}
use lib.ListN.{length, take}
use lib.Dec.{leb, ltb}
use borrow.Author.Tests.{le-leb, lt-leb}
use Rattle.std.specs.Prelude.{Some, None, Result, Ok}
use Rattle.blorb.specs.declared.refusal.Refusal.{Refusal}
use Rattle.blorb.specs.Refusals.{Refused, verdict_of}
use Rattle.blorb.specs.Verdict.{Verdict, accept, refuse, ◌then◌, check, verdict}
use Rattle.blorb.specs.Tags.{Fspc}
use Rattle.blorb.specs.Rules.{type_in, rules_of}
use Rattle.blorb.specs.Model.{Model, model}
use Rattle.blorb.specs.Queries.{find, ref_at, chunk_at, shared, start, front_place, front_number}
use Rattle.reader.specs.declared.Piece.{Piece}
use Rattle.reader.specs.declared.Frontispiece.{Frontispiece}
use Rattle.reader.specs.declared.Facts.{Facts}
use Rattle.reader.specs.Inspecting.{piece_of, target_by, target_of, front_by, front_of, facts_of, inspection_of}

-- the ways out
module _ (profile l N u J : ℕ) (v : Verdict) (m : Model) (us n x : ℕ) where
  abbrev tests : Verdict
  tests = check (leb profile 1) 52 0 then (check (leb l N && leb u J) 20 0 then v)

  pub opened_unknown : 1 < profile → Refused 52 0 ≡ inspection_of tests m us n x
  unfolding check ◌then◌
  opened_unknown h = rw (lt-leb profile 1 h)

  module _ (known : profile ≤ 1) where
    pub opened-first : N < l → Refused 20 0 ≡ inspection_of tests m us n x
    unfolding check ◌then◌
    opened-first h = rw (le-leb profile 1 known, lt-leb l N h)

    pub opened-second : J < u → Refused 20 0 ≡ inspection_of tests m us n x
    unfolding check ◌then◌
    opened-second h = rw (le-leb profile 1 known, lt-leb u J h, and-false (leb l N))

    pub opened-third : l ≤ N → u ≤ J → inspection_of v m us n x ≡ inspection_of tests m us n x
    unfolding check ◌then◌
    opened-third h g = rw (le-leb profile 1 known, le-leb l N h, le-leb u J g)

-- an inspection's two cases
told-refused : (v : Verdict) (m : Model) (u n x k p : ℕ) → inspection_of v m u n x ≡ Refused k p → v ≡ refuse k p
told-refused accept m u n x k p e = let z : ◌≡◌ {A = ℕ} 0 1 = cc in absurd (omega arith)
told-refused (refuse a b) m u n x k p e = ap verdict_of e

told_whole : (v : Verdict) (m : Model) (u n x : ℕ) (fs : Facts) → inspection_of v m u n x ≡ Ok fs → (v ≡ accept) × (fs ≡ facts_of m u n x)
told_whole accept m u n x fs e = (refl, cc)
told_whole (refuse a b) m u n x fs e = let z : ◌≡◌ {A = ℕ} 0 1 = cc in absurd (omega arith)

-- what the first l bytes of b tell under a profile, U bytes of a journal of J being used
module _ (profile : ℕ) (b : List ℕ) (l J U u n x : ℕ) where
  abbrev pub present : Verdict
  present = check (leb profile 1) 52 0 then (check (leb l (length b) && leb U J) 20 0 then verdict (rules_of profile) (take l b))

  abbrev pub asked : Result Facts Refusal
  asked = inspection_of present (model (take l b)) u n x

  pub asked-refused : (k p : ℕ) → asked ≡ Refused k p → present ≡ refuse k p
  asked-refused k p e = told-refused _ (model (take l b)) u n x k p e

  pub asked_whole : (fs : Facts) → asked ≡ Ok fs → (present ≡ accept) × (fs ≡ facts_of (model (take l b)) u n x)
  asked_whole fs e = told_whole _ (model (take l b)) u n x fs e

-- the entry of a pair
pub target_at : (m : Model) (u n : ℕ) (p : Piece) → target_of m u n ≡ Some p → (ltb (find u n m.refs) (length m.refs) ≡ true)
    × (p ≡ piece_of m (find u n m.refs))
unfolding target_of
target_at m u n p e = go (ltb (find u n m.refs) (length m.refs)) e
  where
    go : (b : Bool) → target_by b m (find u n m.refs) ≡ Some p → (b ≡ true) × (p ≡ piece_of m (find u n m.refs))
    go true e = (refl, cc)
    go false e = let z : ◌≡◌ {A = ℕ} 0 1 = cc in absurd (omega arith)

pub target-nothing : (m : Model) (u n : ℕ) → target_of m u n ≡ None → ltb (find u n m.refs) (length m.refs) ≡ false
unfolding target_of
target-nothing m u n e = go (ltb (find u n m.refs) (length m.refs)) e
  where
    go : (b : Bool) → target_by b m (find u n m.refs) ≡ None → b ≡ false
    go true e = cc
    go false e = refl

module _ (m : Model) (i : ℕ) (p : Piece) (e : p ≡ piece_of m i) where
  pub place_is : p.place ≡ i
  place_is = ap (λ (z : Piece). z.place) e

  pub start_is : p.start ≡ start m (ref_at m i).chunk
  start_is = ap (λ (z : Piece). z.start) e

  pub length-is : p.length ≡ length (chunk_at m (ref_at m i).chunk).body
  length-is = ap (λ (z : Piece). z.length) e

  pub shared-is : p.shared ≡ shared m i
  shared-is = ap (λ (z : Piece). z.shared) e

-- the frontispiece
pub front-nothing : (m : Model) → front_of m ≡ None → type_in Fspc m.chunks ≡ false
unfolding front_of
front-nothing m e = go (type_in Fspc m.chunks) e
  where
    go : (b : Bool) → front_by b m ≡ None → b ≡ false
    go false e = refl
    go true e = cc

pub front_at : (m : Model) (p : Frontispiece) → front_of m ≡ Some p → (type_in Fspc m.chunks ≡ true) × (p.start ≡ start m (front_place m.chunks))
    × (p.number ≡ front_number m.chunks)
unfolding front_of
front_at m p e = go (type_in Fspc m.chunks) e
  where
    go : (b : Bool) → front_by b m ≡ Some p → (b ≡ true) × (p.start ≡ start m (front_place m.chunks)) × (p.number ≡ front_number m.chunks)
    go true e = (refl, cc, cc)
    go false e = let z : ◌≡◌ {A = ℕ} 0 1 = cc in absurd (omega arith)
