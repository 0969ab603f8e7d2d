-- A file is accepted exactly when it keeps the rules.
use mathlib.Core.Path.{◌≡◌, refl, sym, ap, ◌∙◌}
use Prim.Native.Nat.{ℕ, zero, suc, ◌+◌, ◌≤◌, ◌<◌}
use mathlib.Core.List.{List, [], ◌∷◌, ◌++◌, append_assoc, append-nil}
use mathlib.Core.Bool.{Bool, true, false, ◌||◌, not, cond}
use native.Mathlib.Omega.{arith}
use native.Mathlib.Nat.{not-suc-le-zero, le_of_suc-le-suc}
use lib.ListN.{length, get_or, take}
use lib.Dec.{eqb, leb}
use borrow.Author.Tests.{eq-eqb, eqb-true, le-leb, leb-true}
use Rattle.blorb.specs.Bytes.{Byte, rd32}
use Rattle.blorb.specs.Tags.{RIdx, Exec, RelN, Fspc}
use Rattle.blorb.specs.Format.{Chunk, Ref, size}
use Rattle.blorb.specs.Verdict.{Rules, accept, ◌then◌, check, no_chunk, second_index, pair_in, ref_fault, verdict}
use Rattle.blorb.specs.Rules.{type_in, picture, single, chunk_rule, chunk_rules, optional, rules_of}
use Rattle.blorb.specs.Model.{Model, base, file, model}
use Rattle.blorb.specs.Queries.{no_ref, ref_at, start}
use Rattle.blorb.specs.All.{All}
use Rattle.blorb.specs.Sound.{Sound}
use Rattle.blorb.proofs.Places.{lower-start}
use Rattle.blorb.specs.Keeps.{EntryKeeps, Keeps, KeepsRules, ChunkKeeps, ChunksKeep, KeepsUnder}
use Rattle.blorb.proofs.Checks.{then_accept, check_accept, pass, accepts, holds_last, and_both, both_true}
use Rattle.blorb.proofs.Accept.{accept_back}
use Rattle.blorb.proofs.VerdictLaws.{refs_fault, model_fault, refs_in_order, verdict-file, file-judged, file-ordered}
use Rattle.blorb.proofs.ModelLaws.{chunk_in}

not_true : (b : Bool) → not b ≡ true → b ≡ false
not_true true h = sym h
not_true false h = refl

-- 9
abbrev OneIndex : List Chunk → Type 0
OneIndex cs = All (λ (c : Chunk). eqb c.type RIdx ≡ false) cs

index-told : (at : ℕ) (cs : List Chunk) → second_index at cs ≡ accept → OneIndex cs
unfolding second_index
index-told at [] h = tt
index-told at (c ∷ cs) h = let q = then_accept _ _ h in (not_true _ (check_accept _ _ _ q.0), index-told (at + size c) cs q.1)

index_fine : (at : ℕ) (cs : List Chunk) → OneIndex cs → second_index at cs ≡ accept
unfolding second_index
index_fine at [] h = refl
index_fine at (c ∷ cs) h = pass _ _ _ _ (rw h.0) ∙ index_fine (at + size c) cs h.1

-- 15
exec_told : (u n : ℕ) → (not (eqb u Exec) || eqb n 0) ≡ true → u ≡ Exec → n ≡ 0
exec_told u n h e = let z : (not true || eqb n 0) ≡ true = rw (eq-eqb u Exec e) at h in eqb-true n 0 z

exec_fine : (u n : ℕ) → (u ≡ Exec → n ≡ 0) → (not (eqb u Exec) || eqb n 0) ≡ true
exec_fine u n h = go (eqb u Exec) refl
  where
    go : (b : Bool) → eqb u Exec ≡ b → (not b || eqb n 0) ≡ true
    go true e = eq-eqb n 0 (h (eqb-true u Exec e))
    go false e = refl

-- 27: the test, and the same of each entry and the next
abbrev Each-order : List Ref → Type 0
Each-order rs = (i : ℕ) → suc i < length rs → (get_or rs i no_ref).chunk ≤ (get_or rs (suc i) no_ref).chunk

order_each : (k : ℕ) (rs : List Ref) → refs_in_order k rs ≡ true → Each-order rs
unfolding refs_in_order
order_each k [] h i l = absurd (not-suc-le-zero l)
order_each k (r ∷ []) h i l = absurd (omega arith)
order_each k (r ∷ (q ∷ rs)) h zero l =
    leb-true _ _ (and_both (leb r.chunk q.chunk) (refs_in_order q.chunk rs) (and_both (leb k r.chunk) (refs_in_order r.chunk (q ∷ rs)) h).1).0
order_each k (r ∷ (q ∷ rs)) h (suc i) l = order_each r.chunk (q ∷ rs) (and_both (leb k r.chunk) (refs_in_order r.chunk (q ∷ rs)) h).1 i (le_of_suc-le-suc l)

order_of : (k : ℕ) (rs : List Ref) → (0 < length rs → k ≤ (get_or rs 0 no_ref).chunk) → Each-order rs → refs_in_order k rs ≡ true
unfolding refs_in_order
order_of k [] b h = refl
order_of k (r ∷ rs) b h = both_true _ _ (le-leb _ _ (b (omega arith))) (order_of r.chunk rs (λ l. h 0 (omega arith)) (λ i l. h (suc i) (omega arith)))

-- and the same of their starts
abbrev Starts-rise : Model → Type 0
Starts-rise m = (i : ℕ) → suc i < length m.refs → start m (ref_at m i).chunk ≤ start m (ref_at m (suc i)).chunk

-- the two tests of entry i and the next agree
start_test : (m : Model) → Sound m → (i : ℕ) → suc i < length m.refs
    → leb (start m (ref_at m i).chunk) (start m (ref_at m (suc i)).chunk) ≡ leb (ref_at m i).chunk (ref_at m (suc i)).chunk
unfolding start
start_test m s i l = lower-start _ _ _ _ (omega (arith, chunk_in m i s (omega arith))) (omega (arith, chunk_in m (suc i) s l))

starts_ordered : (m : Model) → Sound m → Each-order m.refs → Starts-rise m
starts_ordered m s h i l = leb-true _ _ (start_test m s i l ∙ le-leb _ _ (h i l))

chunks-ordered : (m : Model) → Sound m → Starts-rise m → Each-order m.refs
chunks-ordered m s h i l = leb-true _ _ (sym (start_test m s i l) ∙ le-leb _ _ (h i l))

-- 16: no pair of rs stands in `earlier` or before it in rs
abbrev Once : List Ref → List Ref → Type 0
Once earlier rs = (i : ℕ) → i < length rs → pair_in (get_or rs i no_ref).usage (get_or rs i no_ref).number (earlier ++ take i rs) ≡ false

once_on : (earlier : List Ref) (r : Ref) (rs : List Ref) → pair_in r.usage r.number earlier ≡ false → Once (earlier ++ (r ∷ [])) rs → Once earlier (r ∷ rs)
once_on earlier r rs h k zero l = rw (append-nil earlier) h
once_on earlier r rs h k (suc i) l = rw (← append_assoc earlier (r ∷ []) (take i rs)) (k i (omega arith))

once_off : (earlier : List Ref) (r : Ref) (rs : List Ref) → Once earlier (r ∷ rs) → Once (earlier ++ (r ∷ [])) rs
once_off earlier r rs h i l = rw (append_assoc earlier (r ∷ []) (take i rs)) (h (suc i) (omega arith))

module _ (R : Rules) where
  -- 12 and 14 to 16
  refs_told : (cs : List Chunk) (earlier : List Ref) (p : ℕ) (rs : List Ref) → refs_fault R cs earlier p rs ≡ accept → All (EntryKeeps R cs) rs × Once earlier rs
  unfolding refs_fault ref_fault
  refs_told cs earlier p [] h = (tt, λ i l. absurd (not-suc-le-zero l))
  refs_told cs earlier p (r ∷ rs) h =
      let a = then_accept _ _ h in
      let b = then_accept _ _ a.1 in
      let t = then_accept _ _ b.0 in
      let e = then_accept _ _ t.1 in
      let rest = refs_told cs (earlier ++ (r ∷ [])) (p + 12) rs b.1 in
      let one : EntryKeeps R cs r = record {
        known = check_accept _ _ _ a.0;
        typed = check_accept _ _ _ t.0;
        exec_zero = exec_told r.usage r.number (check_accept _ _ _ e.0);
      } in
      ((one, rest.0), once_on earlier r rs (not_true _ (check_accept _ _ _ e.1)) rest.1)

  refs_fine : (cs : List Chunk) (earlier : List Ref) (p : ℕ) (rs : List Ref) → All (EntryKeeps R cs) rs → Once earlier rs → refs_fault R cs earlier p rs ≡ accept
  unfolding refs_fault ref_fault
  refs_fine cs earlier p [] h k = refl
  refs_fine cs earlier p (r ∷ rs) h k =
      let new : pair_in r.usage r.number earlier ≡ false = rw (append-nil earlier) at (k 0 (omega arith)) in
      pass _ _ _ _ h.0.known
      ∙ accepts _ _ (pass _ _ _ _ h.0.typed ∙ pass _ _ _ _ (exec_fine r.usage r.number h.0.exec_zero) ∙ holds_last _ _ _ (rw new))
      ∙ refs_fine cs (earlier ++ (r ∷ [])) (p + 12) rs h.1 (once_off earlier r rs k)

  -- rule 7 as R checks it
  abbrev Seven : Model → Type 0
  Seven m = R.rule7 (base (length m.refs)) m.refs m.chunks ≡ accept

  -- an accepted file keeps the rules with its model
  pub accepted_keeps : (f : List ℕ) → All Byte f → verdict R f ≡ accept → Keeps R Seven f (model f)
  unfolding model_fault
  accepted_keeps f bytes h =
      let back = accept_back R f bytes h in
      let m : Model = model f in
      let fine : verdict R (file m) ≡ accept = ap (verdict R) back.0 ∙ h in
      let a = then_accept _ _ (file-judged R m back.1 fine) in
      let b = then_accept _ _ a.1 in
      let c = then_accept _ _ b.1 in
      let refs = refs_told m.chunks [] 24 m.refs c.0 in
      record {
        laid_out = back.0;
        sound = back.1;
        short = back.2;
        few = leb-true _ _ (check_accept _ _ _ b.0);
        one_index = index-told _ m.chunks a.0;
        entries_keep = refs.0;
        once = refs.1;
        in_order = starts_ordered m back.1 (order_each 0 m.refs (file-ordered R m back.1 fine));
        rule_seven = c.1;
      }

  pub keeps_accepted : (f : List ℕ) (m : Model) → Keeps R Seven f m → verdict R f ≡ accept
  unfolding model_fault
  keeps_accepted f m k =
      ap (verdict R) (sym k.laid_out)
      ∙ verdict-file R m k.sound (order_of 0 m.refs (λ h. omega arith) (chunks-ordered m k.sound k.in_order))
      ∙ pass _ _ _ _ (le-leb (length (file m)) 16777216 (rw k.laid_out k.short))
      ∙ accepts _ _ (index_fine _ m.chunks k.one_index)
      ∙ pass _ _ _ _ (le-leb _ _ k.few)
      ∙ accepts _ _ (refs_fine m.chunks [] 24 m.refs k.entries_keep k.once)
      ∙ k.rule_seven

  -- a file of bytes is accepted exactly when it keeps the rules
  pub exactly : (f : List ℕ) → All Byte f → (verdict R f ≡ accept → KeepsRules R f) × (KeepsRules R f → verdict R f ≡ accept)
  exactly f bytes = (λ h. (model f, accepted_keeps f bytes h), λ k. keeps_accepted f k.0 k.1)

-- 17 to 19
module _ (rs : List Ref) (all : List Chunk) where
  single-told : (t n : ℕ) (earlier : List Chunk) (at : ℕ) (c : Chunk) → single rs all t n earlier at c ≡ accept → (type_in t earlier ≡ false)
      × (length c.body ≡ n)
  unfolding single
  single-told t n earlier at c h =
      let q = then_accept _ _ h in
      (not_true _ (check_accept _ _ _ q.0), eqb-true _ _ (check_accept _ _ _ q.1))

  single_fine : (t n : ℕ) (earlier : List Chunk) (at : ℕ) (c : Chunk) → (type_in t earlier ≡ false) → (length c.body ≡ n)
      → single rs all t n earlier at c ≡ accept
  unfolding single
  single_fine t n earlier at c h l = pass _ _ _ _ (rw h) ∙ holds_last _ _ _ (eq-eqb (length c.body) n l)

  chunk-told : (earlier : List Chunk) (at : ℕ) (c : Chunk) → chunk_rule rs all earlier at c ≡ accept → ChunkKeeps rs all earlier c
  unfolding chunk_rule
  chunk-told earlier at c h = record {
    release = λ e. let z : single rs all RelN 2 earlier at c ≡ accept = rw (eq-eqb c.type RelN e) at h in single-told RelN 2 earlier at c z;
    front = λ e.
        let no : eqb c.type RelN ≡ false = ap (λ (t : ℕ). eqb t RelN) e in
        let z : (single rs all Fspc 4 earlier at c then check (picture (rd32 c.body) all rs) 19 (at + 8)) ≡ accept = rw (no, eq-eqb c.type Fspc e) at h in
        let q = then_accept _ _ z in
        let s = single-told Fspc 4 earlier at c q.0 in
        (s.0, s.1, check_accept _ _ _ q.1);
  }

  chunk_fine : (earlier : List Chunk) (at : ℕ) (c : Chunk) → ChunkKeeps rs all earlier c → chunk_rule rs all earlier at c ≡ accept
  unfolding chunk_rule
  chunk_fine earlier at c k = go (eqb c.type RelN) (eqb c.type Fspc) refl refl
    where
      go : (x y : Bool) → eqb c.type RelN ≡ x → eqb c.type Fspc ≡ y
          → cond x (single rs all RelN 2 earlier at c) (cond y (single rs all Fspc 4 earlier at c then check (picture (rd32 c.body) all rs) 19 (at + 8))
          accept) ≡ accept
      go true y ex ey = let q = k.release (eqb-true _ _ ex) in single_fine RelN 2 earlier at c q.0 q.1
      go false true ex ey = let q = k.front (eqb-true _ _ ey) in accepts _ _ (single_fine Fspc 4 earlier at c q.0 q.1) ∙ holds_last _ _ _ q.2
      go false false ex ey = refl

  abbrev Each : List Chunk → List Chunk → Type 0
  Each earlier cs = (i : ℕ) → i < length cs → ChunkKeeps rs all (earlier ++ take i cs) (get_or cs i no_chunk)

  each_told : (earlier : List Chunk) (at : ℕ) (cs : List Chunk) → chunk_rules rs all earlier at cs ≡ accept → Each earlier cs
  unfolding chunk_rules
  each_told earlier at [] h i l = absurd (not-suc-le-zero l)
  each_told earlier at (c ∷ cs) h zero l = rw (append-nil earlier) (chunk-told earlier at c (then_accept _ _ h).0)
  each_told earlier at (c ∷ cs) h (suc i) l =
      rw (← append_assoc earlier (c ∷ []) (take i cs)) (each_told (earlier ++ (c ∷ [])) (at + size c) cs (then_accept _ _ h).1 i (omega arith))

  each_fine : (earlier : List Chunk) (at : ℕ) (cs : List Chunk) → Each earlier cs → chunk_rules rs all earlier at cs ≡ accept
  unfolding chunk_rules
  each_fine earlier at [] k = refl
  each_fine earlier at (c ∷ cs) k =
      let one : ChunkKeeps rs all earlier c = rw (append-nil earlier) at (k 0 (omega arith)) in
      accepts _ _ (chunk_fine earlier at c one)
      ∙ each_fine (earlier ++ (c ∷ [])) (at + size c) cs (λ i l. rw (append_assoc earlier (c ∷ []) (take i cs)) (k (suc i) (omega arith)))

-- rule 7 of plain files: no refusal 17 to 19 exactly when each chunk keeps it
pub seven_exactly : (m : Model)
    → (optional (base (length m.refs)) m.refs m.chunks ≡ accept → ChunksKeep m) × (ChunksKeep m → optional (base (length m.refs)) m.refs
    m.chunks ≡ accept)
unfolding optional
seven_exactly m = (
  each_told m.refs m.chunks [] (base (length m.refs)) m.chunks,
  each_fine m.refs m.chunks []
      (base (length m.refs)) m.chunks,
)

-- rule 7 said in another way
seven_as : (profile : ℕ) (S T : Model → Type 0) (f : List ℕ) (m : Model) → (S m → T m) → Keeps (rules_of profile) S f m → Keeps (rules_of profile) T f m
seven_as profile S T f m g k =
    record {
      laid_out = k.laid_out;
      sound = k.sound;
      short = k.short;
      few = k.few;
      one_index = k.one_index;
      entries_keep = k.entries_keep;
      once = k.once;
      in_order = k.in_order;
      rule_seven = g k.rule_seven;
    }

-- a file of bytes is accepted exactly when it keeps 01's rules
pub under_exactly : (profile : ℕ) (f : List ℕ) → All Byte f → (verdict (rules_of profile) f ≡ accept → KeepsUnder profile f) × (KeepsUnder profile f
    → verdict (rules_of profile) f ≡ accept)
under_exactly profile f bytes =
    let e = exactly (rules_of profile) f bytes in (
      λ h. let k = e.0 h in (k.0, seven_as profile _ _ f k.0 (seven_exactly k.0).0 k.1),
      λ k. e.1 (
        k.0,
        seven_as profile _ _ f k.0
            (seven_exactly k.0).1 k.1,
      ),
    )
