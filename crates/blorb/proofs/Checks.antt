-- Laws of tests and of checks one after another. A verdict decides the rest of its chain only where it refuses, so each law is by cases of the first one.
-- What a single test or two alone tell of `&&` and `||` stands in mathlib.Core.Bool.
use mathlib.Core.Path.{◌≡◌, refl, sym}
use Prim.Native.Nat.{ℕ}
use mathlib.Core.Bool.{Bool, true, false, ◌&&◌, ◌||◌}
use Rattle.blorb.specs.Verdict.{Verdict, accept, refuse, accepted, ◌then◌, check}

-- what an acceptance tells
pub then_accept : (v w : Verdict) → (v then w) ≡ accept → (v ≡ accept) × (w ≡ accept)
unfolding ◌then◌
then_accept accept w h = (refl, h)
then_accept (refuse k p) w h = (h, cc)

pub check_accept : (b : Bool) (k p : ℕ) → check b k p ≡ accept → b ≡ true
unfolding check
check_accept true k p h = refl
check_accept false k p h = cc

-- a test that holds is passed over, one that fails decides, and so with a verdict
pub pass : (b : Bool) (k p : ℕ) (v : Verdict) → b ≡ true → check b k p then v ≡ v
unfolding check ◌then◌
pass b k p v e = rw e

pub stop : (b : Bool) (k p : ℕ) (v : Verdict) → b ≡ false → check b k p then v ≡ refuse k p
unfolding check ◌then◌
stop b k p v e = rw e

pub holds_last : (b : Bool) (k p : ℕ) → b ≡ true → check b k p ≡ accept
unfolding check
holds_last b k p e = rw e

pub accepts : (v w : Verdict) → v ≡ accept → v then w ≡ w
unfolding ◌then◌
accepts v w e = rw e

pub fails_last : (b : Bool) (k p : ℕ) → b ≡ false → check b k p ≡ refuse k p
unfolding check
fails_last b k p e = rw e

pub refuses : (v w : Verdict) (k p : ℕ) → v ≡ refuse k p → v then w ≡ refuse k p
unfolding ◌then◌
refuses v w k p e = rw e

pub then_assoc : (u v w : Verdict) → (u then v) then w ≡ u then (v then w)
unfolding ◌then◌
then_assoc accept v w = refl
then_assoc (refuse k p) v w = refl

pub then_end : (v : Verdict) → v then accept ≡ v
unfolding ◌then◌
then_end accept = refl
then_end (refuse k p) = refl

pub is_accept : (v : Verdict) → accepted v ≡ true → v ≡ accept
is_accept accept h = refl
is_accept (refuse k p) h = let z : ◌≡◌ {A = Bool} false true = h in cc

-- two tests
pub both_true : (a b : Bool) → a ≡ true → b ≡ true → a && b ≡ true
both_true a b p q = rw (p, q)

pub and_both : (a b : Bool) → a && b ≡ true → (a ≡ true) × (b ≡ true)
and_both true b h = (refl, h)
and_both false b h = (h, cc)

pub neither : (a b : Bool) → a || b ≡ false → (a ≡ false) × (b ≡ false)
neither true b h = let z : ◌≡◌ {A = Bool} true false = h in (h, cc)
neither false b h = (refl, h)

pub or_map : (a b c : Bool) → a || b ≡ true → (b ≡ true → c ≡ true) → a || c ≡ true
or_map true b c h f = refl
or_map false b c h f = f h

-- the second test counts only where the first holds
pub and_where : (a x y : Bool) → (a ≡ true → x ≡ y) → a && x ≡ a && y
and_where true x y f = f refl
and_where false x y f = refl

-- two tests that hold together are the same
pub same_test : (a b : Bool) → (a ≡ true → b ≡ true) → (b ≡ true → a ≡ true) → a ≡ b
same_test true b f g = sym (f refl)
same_test false true f g = g refl
same_test false false f g = refl

pub or_swap : (a b c : Bool) → a || (b || c) ≡ b || (a || c)
or_swap true true c = refl
or_swap true false c = refl
or_swap false b c = refl
