-- A turn of a reader: a member is judged, what it holds is read by its own reader with a level less, and the walk goes on behind it.
use Prim.Native.Nat.{ℕ, ◌+◌, ◌≤◌, ◌<◌}
use mathlib.Core.Path.{◌≡◌, ◌∙◌}
use mathlib.Core.List.{List}
use native.Mathlib.Omega.{arith}
use lib.ListN.{length, drop}
use Rattle.std.specs.Prelude.{Result, Ok, Err}
use Rattle.blorb.specs.Bytes.{rd32}
use Rattle.blorb.specs.declared.refusal.Refusal.{Refusal}
use Rattle.members.specs.declared.Place.{Place}
use Rattle.members.specs.declared.Place.TheVariants.{InForm}
use Rattle.members.specs.Kinds.{behind}
use Rattle.members.specs.Faults.{kind_at, size_at, next_at}
use Rattle.groups.specs.declared.readers.Member.{Member}
use Rattle.groups.specs.declared.readers.Member.TheVariants.{Form as OfForm, Group as OfGroup, Passed}
use Rattle.groups.specs.Events.{members, chunk}
use Rattle.groups.specs.Store.{store}
use Rattle.groups.specs.Scan.{form_shows, Outcome, good, bad, left, scan, member_at_of}
use Rattle.groups.proofs.ScanLaws.{Opens, turn-good, turn_bad, good_in_lem, member_bad, member_passed, member_form, member_group}

-- a reader at the member at at, with n rows before it
pub record Turn : Type 0 where
  pub f : List ℕ
  pub p : Place
  pub depth : ℕ
  pub end : ℕ
  pub at : ℕ
  pub base : ℕ
  pub n : ℕ
  pub rows : List ℕ
  pub on : at < end
  pub inside : end ≤ length f
  pub counted : n ≤ at

-- the member as it is judged; the scan of it alone, and from it on
abbrev pub judged : Turn → Result Member Refusal
judged T = member_at_of T.f T.p T.depth T.end T.at

abbrev pub of_member : Turn → Outcome
of_member T = scan T.base T.n T.rows (chunk T.f T.p T.depth T.end T.at)

abbrev pub from_here : Turn → Outcome
from_here T = scan T.base T.n T.rows (members T.f T.p T.depth T.end T.at)

-- what holds where the next member begins: k rows by now, and the rest of the scan is that from here
pub record Next (T : Turn) (k : ℕ) (r : List ℕ) (x : ℕ) (y : Place) : Type 0 where
  pub counted : k ≤ x
  pub on : T.at < x
  pub same : scan T.base k r (members T.f y T.depth T.end x) ≡ from_here T

module _ (T : Turn) where
  pub stopped : (q : Refusal) → judged T ≡ Err q → bad q.0 q.1 T.rows ≡ from_here T
  stopped q e =
      turn_bad T.f T.p T.depth T.end T.at T.base T.n T.rows T.on T.inside q.0 q.1 T.rows
      (member_bad T.f T.p T.depth T.end T.at T.base T.n T.rows q.0 q.1 e)

  next_by : (k : ℕ) (r : List ℕ) (x : ℕ) (y : Place) → good k r ≡ of_member T → x ≡ next_at T.f T.at
      → y ≡ behind T.p (kind_at T.f T.at) → Next T k r x y
  next_by k r x y e a b =
      let g = good_in_lem T.f T.p T.depth T.end T.at T.base T.n T.rows k r e in
      let on = turn-good T.f T.p T.depth T.end T.at T.base T.n T.rows T.on T.inside k r e in
      record { counted = rw a (g.2 T.counted); on = omega (arith, a); same = rw (a, b) on }

  pub passed_on : (x : ℕ) (y : Place) → judged T ≡ Ok (Passed x y) → Next T T.n T.rows x y
  passed_on x y e =
      let g = member_passed T.f T.p T.depth T.end T.at T.base T.n T.rows x y e in
      next_by T.n T.rows x y g.0 g.1 g.2

  pub opens_form : (c x : ℕ) (y : Place) → judged T ≡ Ok (OfForm c x y) → Opens T.f T.p T.depth T.end T.at c x y
  opens_form c x y v = (member_form T.f T.p T.depth T.end T.at T.base T.n T.rows c x y v).1

  pub opens_group : (q : Place) (c x : ℕ) (y : Place) → judged T ≡ Ok (OfGroup q c x y) → Opens T.f T.p T.depth T.end T.at c x y
  opens_group q c x y v = (member_group T.f T.p T.depth T.end T.at T.base T.n T.rows q c x y v).1

  -- The member's own reader, with a level less, has answered o and left k rows in the slice r: that is the scan of the member alone,
  module _ {A : Type 0} (o : Result A Refusal) (k : ℕ) (r : List ℕ) where
    of_form : (c x : ℕ) (y : Place) → judged T ≡ Ok (OfForm c x y) → left o k r ≡ scan T.base T.n T.rows (form_shows T.f T.depth c T.at)
        → left o k r ≡ of_member T
    unfolding scan
    of_form c x y v e =
        let g = member_form T.f T.p T.depth T.end T.at T.base T.n T.rows c x y v in
        e ∙ rw g.1.closes g.0

    of_group : (q : Place) (c x : ℕ) (y : Place) → judged T ≡ Ok (OfGroup q c x y)
        → left o k r ≡ scan T.base T.n T.rows (members T.f q (T.depth + 1) c (T.at + 12))
        → left o k r ≡ of_member T
    of_group q c x y v e =
        let g = member_group T.f T.p T.depth T.end T.at T.base T.n T.rows q c x y v in
        e ∙ rw g.1.closes g.0

    -- so the walk stops where it stopped, and goes on behind the member where it didn't
    inner_stops : left o k r ≡ of_member T → (q : Refusal) → o ≡ Err q → bad q.0 q.1 r ≡ from_here T
    inner_stops e q w =
        turn_bad T.f T.p T.depth T.end T.at T.base T.n T.rows T.on T.inside q.0 q.1 r (rw w at e)

    inner_goes : left o k r ≡ of_member T → (c x : ℕ) (y : Place) → Opens T.f T.p T.depth T.end T.at c x y
        → (u : A) → o ≡ Ok u → Next T k r x y
    inner_goes e c x y g u w = next_by k r x y (rw w at e) g.nexts g.afters

    -- a FORM, read by its own reader
    module _ (c x : ℕ) (y : Place) (v : judged T ≡ Ok (OfForm c x y)) (e : left o k r ≡ scan T.base T.n T.rows (form_shows T.f T.depth c T.at)) where
      pub form_stops : (q : Refusal) → o ≡ Err q → bad q.0 q.1 r ≡ from_here T
      form_stops q w = inner_stops (of_form c x y v e) q w

      pub form_goes : (u : A) → o ≡ Ok u → Next T k r x y
      form_goes u w = inner_goes (of_form c x y v e) c x y (opens_form c x y v) u w

    -- a group
    module _ (p : Place) (c x : ℕ) (y : Place) (v : judged T ≡ Ok (OfGroup p c x y))
        (e : left o k r ≡ scan T.base T.n T.rows (members T.f p (T.depth + 1) c (T.at + 12))) where
      pub group_stops : (q : Refusal) → o ≡ Err q → bad q.0 q.1 r ≡ from_here T
      group_stops q w = inner_stops (of_group p c x y v e) q w

      pub group_goes : (u : A) → o ≡ Ok u → Next T k r x y
      group_goes u w = inner_goes (of_group p c x y v e) c x y (opens_group p c x y v) u w

-- a FORM's row is stored before its members are read
pub form_first : (f : List ℕ) (base n depth end at : ℕ) (rows r : List ℕ) → r ≡ store base n rows (rd32 (drop (at + 8) f)) at (size_at f at) depth
    → scan base (n + 1) r (members f InForm (depth + 1) end (at + 12)) ≡ scan base n rows (form_shows f depth end at)
unfolding scan
form_first f base n depth end at rows r e = rw e
