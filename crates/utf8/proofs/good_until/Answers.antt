use mathlib.Core.Path.{◌≡◌, sym, ap, ◌∙◌}
use Prim.Native.Nat.{◌+◌, ◌≤◌, ◌<◌}
use mathlib.Core.Bool.{Bool, true, false, cond}
use native.Mathlib.Omega.{arith}
use lib.ListN.{length, get_or, drop}
use Rattle.utf8.specs.Utf8.{char_length}
use Rattle.utf8.proofs.FormLaws.{one_char}
use Rattle.utf8.proofs.GoodLaws.{char_inside, same_byte}
use Rattle.utf8.proofs.RunLaws.{reached_first, reached_next, until_stuck, until_there}
use Rattle.utf8.proofs.good_until.Goals as goal
use Rattle.utf8.proofs.good_until.Goals.{After-two_bytes, In-loop-at}

-- the byte looked at lies in the text
there : (c : In-loop-at) → c.loop-at.at < length c.args.s.now
there c = omega (arith, c.loop-at-test.true, c.requires.1)

-- what is told of a character of two bytes: none, or one
none_of_two : (c : After-two_bytes) → c.two_bytes.result ≡ false
    → 0 ≡ char_length (drop c.loop-at.at c.args.s.now)
none_of_two c e = sym (c.two_bytes.ensures ∙ ap (λ (b : Bool). cond b 2 0) e)

one_of_two : (c : After-two_bytes) → c.two_bytes.result ≡ true
    → 2 ≡ char_length (drop c.loop-at.at c.args.s.now)
one_of_two c e = sym (c.two_bytes.ensures ∙ ap (λ (b : Bool). cond b 2 0) e)

two_inside : (c : After-two_bytes) → c.two_bytes.result ≡ true
    → c.loop-at.at + 2 ≤ length c.args.s.now
two_inside c e = char_inside _ _ 2 (one_of_two c e) c.loop-at.invariant.inside

pub loop-at-init : goal.loop-at-init
loop-at-init c = reached_first _ _ _ c.requires.0 c.requires.1

pub loop-at-preserved-then-a-lt128 : goal.loop-at-preserved-then-a-lt128
loop-at-preserved-then-a-lt128 c =
    let l = c.loop-at in
    let s = c.args.s.now in
    let one = one_char s l.at (get_or s l.at 0) (same_byte s l.at 0 256 (there (goal.at.loop-at-preserved-then-a-lt128 c).In-loop-at)) c.if-a-lt128.true in
    reached_next s _ _ l.at l.invariant c.loop-at-test.true 1 one (λ e. omega arith)

pub two_bytes-requires : goal.two_bytes-requires
two_bytes-requires c =
    let s = c.args.s.now in
    let inside = there (goal.at.two_bytes-requires c).In-loop-at in
    (inside, same_byte s c.loop-at.at 0 256 inside, omega (arith, c.if-a-lt128.false), c.if-a-lt224.true)

pub returns-then-not-two_bytes : goal.returns-then-not-two_bytes
returns-then-not-two_bytes c =
    until_stuck _ _ _ _ c.loop-at.invariant (none_of_two (goal.at.returns-then-not-two_bytes c).After-two_bytes c.if-not-two_bytes.true)

pub overflow_add-at-then-a-lt224 : goal.overflow_add-at-then-a-lt224
overflow_add-at-then-a-lt224 c = omega (arith, two_inside (goal.at.overflow_add-at-then-a-lt224 c).After-two_bytes c.if-not-two_bytes.false)

pub loop-at-preserved-then-a-lt224 : goal.loop-at-preserved-then-a-lt224
loop-at-preserved-then-a-lt224 c =
    let l = c.loop-at in
    reached_next _ _ _ _ l.invariant c.loop-at-test.true 2
    (one_of_two (goal.at.loop-at-preserved-then-a-lt224 c).After-two_bytes c.if-not-two_bytes.false) (λ e. omega arith)

pub long_char-requires : goal.long_char-requires
long_char-requires c =
    let s = c.args.s.now in
    let inside = there (goal.at.long_char-requires c).In-loop-at in
    (inside, same_byte s c.loop-at.at 0 256 inside, omega (arith, c.if-a-lt224.false))

pub returns-in_default : goal.returns-in_default
returns-in_default c = until_stuck _ _ _ _ c.loop-at.invariant (sym c.in_default.ensures)

pub overflow_add-at-in-loop-at : goal.overflow_add-at-in-loop-at
overflow_add-at-in-loop-at c =
    omega (arith, char_inside _ _ _ (sym c.in-Some.ensures.0) c.loop-at.invariant.inside)

pub loop-at-preserved : goal.loop-at-preserved
loop-at-preserved c =
    let l = c.loop-at in
    let some : 0 < c.in-Some.n = c.in-Some.ensures.1 in
    reached_next _ _ _ _ l.invariant c.loop-at-test.true _ (sym c.in-Some.ensures.0) (λ e. omega arith)

pub returns : goal.returns
returns c = until_there _ _ _ _ c.loop-at.invariant c.loop-at-test.false
