use borrow.Author.Rules.{rules}
use native.Mathlib.Omega.{arith}
use Prim.Native.Nat.{ℕ, ◌+◌, ◌-◌, ◌≤◌, ◌<◌}
use mathlib.Core.Path.{◌≡◌, refl, sym, ap, ◌∙◌}
use mathlib.Core.Bool.{false}
use mathlib.Core.List.{List}
use lib.ListN.{length, get_or, length-set}
use Rattle.std.proofs.lemmas.Result.{err_from_is_err_and}
use Rattle.blorb.specs.Verdict.{accept, pair_in}
use Rattle.blorb.specs.Refusals.{verdict_of}
use Rattle.chunks.proofs.StartLaws.{begun, resume}
use Rattle.index.specs.Entries.{usage_at, number_at, start_at, place, earlier, entries_from, entry_fault, slot_of, Below}
use Rattle.index.proofs.EntryLaws.{
  judged-at,
  judged-fault,
  entry-start,
  entry_stop,
  pair_stop,
  pair_more,
  pair_hit,
  order_stop,
  entries_next,
  before-next,
  before-none,
  entries_end,
  fresh,
  pair-none,
  topped,
  below_next,
  below_same,
}
use Rattle.index.proofs.entries.entries.Goals as goal
use Rattle.index.proofs.entries.entries.Goals.{After-be32_at-number, Joined-tops-k, then-tops-k, else-tops-k+else-loop-i-test}

-- entry j once its number is read: it is good by itself, and its chunk begins at `found`
judged : (c : After-be32_at-number)
    → let a = c.args in
    let p : ℕ = place c.entries.j in
    (entry_fault a.profile a.s.now (place a.count) p ≡ accept) × (start_at a.s.now p ≡ c.in_ok-found.found)
judged c = judged-at _ _ _ (sym c.in_ok-found.ensures)

-- its pair is new where its number is no less than the top of its usage
new-pair : (c : After-be32_at-number)
    → let a = c.args in
    let o = c.entries in
    get_or o.tops c.slot-k.result 0 ≤ c.be32_at-number.result
    → pair_in (usage_at a.s.now (place o.j)) (number_at a.s.now (place o.j)) (earlier a.s.now (place a.count) o.j) ≡ false
new-pair c h =
    let s = c.args.s.now in
    let o = c.entries in
    let k = c.slot-k.result in
    let m : c.be32_at-number.result ≡ number_at s (place o.j) = c.be32_at-number.ensures.0 in
    let is : k ≡ slot_of (usage_at s (place o.j)) = c.slot-k.ensures.0 ∙ ap slot_of c.be32_at.ensures.0 in
    fresh s _ o.j (get_or o.tops k 0) (topped s o.tops o.j k o.invariant.6 is) (omega arith) o.j (omega arith)

-- and where none of the i that were asked has it, and these are all
asked : (s : List ℕ) (base i j : ℕ) → i ≡ j → pair_in (usage_at s (place j)) (number_at s (place j)) (earlier s base i) ≡ false
    → pair_in (usage_at s (place j)) (number_at s (place j)) (earlier s base j) ≡ false
asked s base i j e h = ap (λ (z : ℕ). pair_in (usage_at s (place j)) (number_at s (place j)) (earlier s base z)) (sym e) ∙ h

-- behind the search its pair is new, and its number is below its usage's top
turned : (c : Joined-tops-k)
    → let a = c.args in
    let o = c.entries in
    (pair_in (usage_at a.s.now (place o.j)) (number_at a.s.now (place o.j)) (earlier a.s.now (place a.count) o.j) ≡ false)
    × (length c.if-tops-k.tops ≡ 8) × Below a.s.now c.if-tops-k.tops (o.j + 1) × (verdict_of c.if-tops-k.answer ≡ accept)
turned c =
    let s = c.args.s.now in
    let base : ℕ = place c.args.count in
    let o = c.entries in
    let k = c.slot-k.result in
    let m : c.be32_at-number.result ≡ number_at s (place o.j) = c.be32_at-number.ensures.0 in
    let top : ℕ = get_or o.tops k 0 in
    let t : length o.tops ≡ 8 = o.invariant.2 in
    let z : k < 8 = c.slot-k.ensures.1 in
    let is : k ≡ slot_of (usage_at s (place o.j)) = c.slot-k.ensures.0 ∙ ap slot_of c.be32_at.ensures.0 in
    elim c.if-tops-k.branch [
      | then-tops-k w ↦
          let h : top ≤ c.be32_at-number.result = w.if-tops-k.true in
          rw (w.tops-is, w.answer-is) (
            fresh s base o.j top (topped s o.tops o.j k o.invariant.6 is) (omega arith) o.j (omega arith),
            simp length-set t,
            below_next s o.tops o.j k (c.be32_at-number.result + 1) o.invariant.6 is (omega arith) (omega arith) (omega arith),
            o.invariant.1,
          )
      | else-tops-k+else-loop-i-test w ↦
          let h : c.be32_at-number.result < top = w.if-tops-k.false in
          let l = w.loop-i in
          rw (w.tops-is, w.answer-is) (
            asked s base l.i o.j (omega arith) l.invariant.2,
            t,
            below_same s o.tops o.j k o.invariant.6 is (omega arith),
            l.invariant.1,
          )
    ]

pub entries-init : goal.entries-init
entries-init c =
    let a = c.args in
    let z : a.count - 0 ≡ a.count = omega arith in (
      search rules,
      refl,
      refl,
      c.requires.2,
      (λ x l. refl),
      ap (λ (n : ℕ). entries_from a.profile a.s.now (place a.count) 0 n) z,
      (λ i h. absurd (omega arith)),
      before-none a.s.now (place a.count),
    )

pub returns-in_err-found : goal.returns-in_err-found
returns-in_err-found c =
    let p = err_from_is_err_and c.from_residual.result c.from_residual.ensures.1 in
    rw (p.1, p.2)
    (entry_stop _ _ _ _ _ c.requires.2 c.entries-test.true _ _ (judged-fault _ _ _ _ (sym c.in_err-found.ensures)) ∙ c.entries.invariant.5)

pub loop-i-init : goal.loop-i-init
loop-i-init c = (omega arith, c.entries.invariant.1, pair-none c.args.s.now (place c.args.count) c.entries.j)

pub loop-i-preserved : goal.loop-i-preserved
loop-i-preserved c =
    let l = c.loop-i in (
      omega arith,
      l.invariant.1,
      pair_more c.args.s.now (place c.args.count) l.i c.entries.j l.invariant.2 (sym c.same_pair.ensures ∙ c.if-same_pair.false),
    )

pub returns-then-same_pair : goal.returns-then-same_pair
returns-then-same_pair c =
    let a = c.args in
    let o = c.entries in
    pair_stop _ a.s.now (place a.count) a.count o.j c.requires.2 (omega arith) (judged (goal.at.returns-then-same_pair c).After-be32_at-number).0
    (pair_hit a.s.now (place a.count) c.loop-i.i o.j o.j c.loop-i-test.true (sym c.same_pair.ensures ∙ c.if-same_pair.true)) ∙ o.invariant.5

pub returns-then-found-before : goal.returns-then-found-before
returns-then-found-before c =
    let a = c.args in
    let s = a.s.now in
    let o = c.entries in
    let base : ℕ = place a.count in
    let n = (goal.at.returns-then-found-before c).After-be32_at-number in
    let g = judged n in
    let x : pair_in (usage_at s (place o.j)) (number_at s (place o.j)) (earlier s base o.j) ≡ false
    = elim c.if-tops-k.branch [
      | then-tops-k w ↦ new-pair n w.if-tops-k.true
      | else-tops-k+else-loop-i-test w ↦ asked s base w.loop-i.i o.j (omega arith) w.loop-i.invariant.2
    ] in
    order_stop _ s base a.count o.j c.requires.2 (omega arith) g.0 x o.found _ o.invariant.7 g.1 c.if-found-before.true ∙ o.invariant.5

pub entries-preserved : goal.entries-preserved
entries-preserved c =
    let a = c.args in
    let s = a.s.now in
    let o = c.entries in
    let base : ℕ = place a.count in
    let w = c.requires.2 in
    let g = judged (goal.at.entries-preserved c).After-be32_at-number in
    let t = turned (goal.at.entries-preserved c).Joined-tops-k in
    let b = entry-start _ s base (place o.j) g.0 in (
      omega arith,
      t.3,
      t.1,
      rw (← g.1) (begun s (start_at s (place o.j)) base w b).walks,
      rw (← g.1) (resume s (start_at s (place o.j)) base w b),
      entries_next _ s base a.count o.j w (omega arith) g.0 t.0 o.found _ o.invariant.7 g.1 c.if-found-before.false ∙ o.invariant.5,
      t.2,
      before-next _ s base a.count o.j w (omega arith) g.0 _ g.1,
    )

pub returns-after-entries : goal.returns-after-entries
returns-after-entries c =
    let a = c.args in
    let o = c.entries in
    let z : a.count - o.j ≡ 0 = omega arith in
    o.invariant.1
    ∙ sym (ap (λ (n : ℕ). entries_from a.profile a.s.now (place a.count) o.j n) z ∙ entries_end _ a.s.now (place a.count) c.requires.2 o.j)
    ∙ o.invariant.5
