-- 02's sentences on group files as a grammar: a file is accepted exactly when its bytes are those of a tree of at most 16 levels that they allow, and the
-- list is that tree's FORMs, each once, by rising start. The sentences are turned into the tables by which a file is read (Sentences) and back.
use Prim.Native.Nat.{ℕ, suc, ◌+◌, ◌-◌, ◌≤◌, ◌<◌}
use mathlib.Core.Path.{◌≡◌, refl, ap, sym, ◌∙◌}
use mathlib.Core.List.{List, [], ◌∷◌, ◌++◌, append-nil}
use mathlib.Core.Bool.{true, false}
use native.Mathlib.Omega.{arith}
use lib.ListN.{length, take, drop}
use lib.Seq.{take-length}
use borrow.Author.Tests.{le-leb, eq-eqb, leb-true, eqb-true}
use Rattle.blorb.specs.All.{All}
use Rattle.blorb.specs.Bytes.{rd32, Byte}
use Rattle.blorb.specs.Format.{Chunk, chunk_bytes}
use Rattle.blorb.specs.Sound.{W}
use Rattle.blorb.specs.Verdict.{accept, ◌then◌, check}
use Rattle.blorb.proofs.Accept.{rd32_small}
use Rattle.blorb.proofs.AllLaws.{all_drop}
use Rattle.blorb.proofs.Checks.{then_accept, check_accept}
use Rattle.members.specs.declared.Kind.{Kind}
use Rattle.members.specs.declared.Kind.TheVariants.{Form, List as Lst, Cat, Prop, Plain}
use Rattle.members.specs.declared.Place.TheVariants.{Top}
use Rattle.members.specs.Kinds.{nests, is_plain, within}
use Rattle.members.specs.Faults.{kind_at, end_at, next_at, member_fault_of}
use Rattle.groups.specs.Events.{Event, form, fault, members, chunk}
use Rattle.groups.specs.Files.{Row, first_fault, forms, events_of, forms_of, file_fault}
use Rattle.groups.proofs.Order.{Rising, file-rising}
use Rattle.members.proofs.FaultLaws.{good-facts}
use Rattle.grammar.specs.Tree.{Chunks, none, holder, bytes, Each, Within, own_row, rows_from, Rise, FileOf}
use Rattle.grammar.proofs.Sentences.{Placed, nests_named, placed_said, said_placed}
use Rattle.grammar.proofs.TreeRead.{shows, shows_fine, shows-forms, kind_of_code, code_small, chunk_for, length-data}
use Rattle.grammar.proofs.TreeRead.{next-at, filled, chunk_right, holder_events, tree_members}
use Rattle.grammar.proofs.TreeBack.{Read, members-back, holder-again, chunk_fine}

nests_holds : (k : Kind) → nests k ≡ true → is_plain k ≡ false
nests_holds Form e = refl
nests_holds Lst e = refl
nests_holds Cat e = refl
nests_holds Prop e = refl
nests_holds Plain e = let z : ◌≡◌ {A = ℕ} 0 1 = cc in absurd (omega arith)

-- the tree of a file: its one group or FORM
abbrev pub tree_of : {f : List ℕ} → FileOf f → Chunks
tree_of T = holder T.kind T.type T.members none

module _ (f : List ℕ) (short : length f ≤ 16777216) (T : FileOf f) where
  small : length f < W
  small = omega arith

  abbrev top : Chunk
  top = chunk_for T.kind T.type (bytes T.members)

  stands : drop 0 f ≡ chunk_bytes top ++ []
  unfolding bytes
  stands = sym T.whole

  to_end : next_at f 0 ≡ length f
  to_end =
      let n = next-at f [] top 0 stands (omega arith) small (code_small T.kind) in
      let whole = filled f [] top 0 stands (omega arith) small (code_small T.kind) in
      omega (arith, n, whole)

  -- its chunks stand where the tables let them
  placed : Placed Top (tree_of T)
  unfolding Each
  placed = said_placed Top (tree_of T) (T.top, tt) T.allowed

  -- the file shows just the FORMs of its tree
  tree_events : events_of f ≡ shows (rows_from 0 1 (tree_of T))
  unfolding rows_from Placed Within
  tree_events =
      let k : Kind = T.kind in
      let b : List ℕ = bytes T.members in
      let right = chunk_right f [] top 0 stands (omega arith) small (code_small k) k (kind_of_code k placed.1) Top placed.2 1 (length f)
      (omega (arith, to_end)) (λ q. omega (arith, length-data T.type b)) (λ q. omega arith) in
      let own = holder_events f [] k T.type 0 1 b stands (omega arith) small placed.1 placed.0 (rows_from (0 + 12) (1 + 1) T.members)
      (λ w q h. tree_members T.members f w (within k) 15 (1 + 1) (0 + 12) q h small placed.3 T.levels.1 (λ one. omega arith)) in
      right ∙ own ∙ ap shows (ap (λ (rs : List Row). own_row k T.type 0 (4 + length b) 1 ++ rs) (sym (append-nil (rows_from (0 + 12) (1 + 1) T.members))))

  -- such a file is accepted
  pub tree_accepted : file_fault f ≡ accept
  unfolding file_fault check ◌then◌
  tree_accepted =
      let fine : first_fault (events_of f) ≡ accept = ap first_fault tree_events ∙ shows_fine (rows_from 0 1 (tree_of T)) in
      rw (le-leb (length f) 16777216 short, fine, eq-eqb (next_at f 0) (length f) to_end)

  -- "Each FORM is listed once": the list is the tree's FORMs, each before those that it holds and those behind it
  pub tree_rows : forms_of f ≡ rows_from 0 1 (tree_of T)
  tree_rows = ap forms tree_events ∙ shows-forms (rows_from 0 1 (tree_of T))

-- An accepted file is that of a tree: the one that is read.
pub accepted_tree : (f : List ℕ) → All Byte f → file_fault f ≡ accept → FileOf f × (length f ≤ 16777216)
unfolding file_fault chunk bytes Placed Within
accepted_tree f all e =
    let a = then_accept _ _ e in
    let b = then_accept _ _ a.1 in
    let short = leb-true (length f) 16777216 (check_accept _ _ _ a.0) in
    let last : next_at f 0 ≡ length f = eqb-true (next_at f 0) (length f) (check_accept _ _ _ b.1) in
    let own = chunk_fine (member_fault_of f Top 1 (length f) 0) (kind_at f 0) f 1 0 (λ q x at. members f q (1 + 1) x at) b.0 in
    let good = good-facts f Top 1 (length f) 0 own.0 in
    let holding = nests_holds (kind_at f 0) good.holds in
    let inner : Read f (within (kind_at f 0)) (1 + 1) (end_at f 0) (0 + 12)
    = members-back (length f) f (within (kind_at f 0)) (1 + 1) (end_at f 0) (0 + 12) all good.body (omega (arith, good.body)) (own.1 holding) in
    let done : length f - next_at f 0 ≡ 0 = omega (arith, last) in
    let whole = holder-again f all Top 1 (length f) 0 (omega arith) own.0 holding inner [] (rw done) in
    let zero-less : length f - 0 ≡ length f = omega arith in
    let all_of : take (length f - 0) (drop 0 f) ≡ f = rw zero-less (take-length f) in
    let small = rd32_small (drop (0 + 8) f) (all_drop Byte (0 + 8) f all) in
    let placed : Placed Top (holder (kind_at f 0) (rd32 (drop (0 + 8) f)) inner.tree none) = (small, holding, good.holds, inner.placed, tt) in (
      record {
        kind = kind_at f 0;
        type = rd32 (drop (0 + 8) f);
        members = inner.tree;
        top = nests_named (kind_at f 0) good.holds;
        allowed = (placed_said Top _ placed).1;
        levels = ((λ n. omega arith), inner.levels, tt);
        whole = sym whole ∙ all_of;
      },
      short,
    )

-- accepted exactly when the bytes are those of such a tree, and there are at most 16,777,216 of them
pub accepted_exactly : (f : List ℕ) → All Byte f
    → (file_fault f ≡ accept → FileOf f × (length f ≤ 16777216)) × (FileOf f × (length f ≤ 16777216) → file_fault f ≡ accept)
accepted_exactly f all = (accepted_tree f all, λ t. tree_accepted f t.1 t.0)

-- the list of any file goes by rising start, so no FORM stands in it twice
rows_rise : (lo hi : ℕ) (es : List Event) → Rising lo hi es → Rise lo (forms es)
unfolding Rising Rise forms
rows_rise lo hi [] r = tt
rows_rise lo hi (form t a m d ∷ es) r = (r.0, rows_rise (suc a) hi es r.2)
rows_rise lo hi (fault k p ∷ es) r = rise_wide lo (suc p) (forms es) (omega (arith, r.0)) (rows_rise (suc p) hi es r.2)
  where
    rise_wide : (lo mid : ℕ) (rs : List Row) → lo ≤ mid → Rise mid rs → Rise lo rs
    rise_wide lo mid [] h r = tt
    rise_wide lo mid (x ∷ rs) h r = (omega (arith, r.0), r.1)

pub each_once : (f : List ℕ) → Rise 0 (forms_of f)
each_once f = rows_rise 0 (suc (next_at f 0)) (events_of f) (file-rising f)
