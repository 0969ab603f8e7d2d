-- The file's 'RDes' and the answers: what an opened chunk tells, each way out of `describe` and `tell`, and that the text named lies in the file.
use Rattle.std.specs.Prelude.{Option, Some, None, Result, Ok, Err, cond}
use Rattle.std.specs.Option.{ok_or}
use Rattle.blorb.specs.Refusals.{Refused}
use Rattle.blorb.specs.declared.refusal.Refusal.{Refusal}
use mathlib.Core.Path.{◌≡◌, refl, sym, ap, subst, ◌∙◌}
use Prim.Native.Nat.{ℕ, zero, suc, ◌+◌, ◌-◌, ◌≤◌, ◌<◌}
use mathlib.Core.List.{List}
use mathlib.Core.Bool.{Bool, true, false, ◌&&◌, not}
use native.Mathlib.Omega.{arith}
use lib.ListN.{length, take, drop, length-drop}
use lib.Seq.{length-take-le}
use lib.Dec.{ltb, eqb}
use borrow.Author.Tests.{lt-ltb, le-ltb, ltb-true, not-true, not-false}
use Rattle.blorb.specs.Bytes.{rd32}
use Rattle.blorb.specs.Verdict.{Verdict, accept, refuse, ◌then◌, pair_in}
use Rattle.blorb.specs.Rules.{profile_verdict}
use Rattle.blorb.specs.Model.{model}
use Rattle.blorb.proofs.RefusalLaws.{not_refused}
use Rattle.blorb.proofs.Checks.{then_accept, check_accept}
use Rattle.rdes.specs.Rdes.{RDes, usage_at, number_at, size_at, next_at, fills_from, chunk_fault, offset_of}
use Rattle.rdes.proofs.EntryLaws.{fills-all, entry-room, filled}
use Rattle.locate.specs.Located.{located_of, data_at}
use Rattle.locate.specs.declared.Located.{Located}
use Rattle.locate.specs.declared.Located.TheVariants as located
use Rattle.locate.proofs.Promises.{located_stood, located_short, located_accepts}
use Rattle.descriptions.specs.Texts.{rdes_verdict, described_with, described_of, answered_by, or_22, of_one, given_at, get_of, told_with, tell_from_of, tell_of, told_of}
use Rattle.descriptions.specs.Placed.{Placed}
use Rattle.descriptions.specs.Opened.{IsOpened}
use Rattle.descriptions.specs.declared.Described.{Described}
use Rattle.descriptions.specs.declared.Told.{Told}

-- the part of the file that the code lends
abbrev pub part_at : List ℕ → ℕ → ℕ → List ℕ
part_at f x m = take (x + 8 + m - (x + 8)) (drop (x + 8) f)

pub part-is : (f : List ℕ) (x m : ℕ) → part_at f x m ≡ data_at f x m
part-is f x m = let q : x + 8 + m - (x + 8) ≡ m = omega arith in rw q

pub part_length : (f : List ℕ) (x m : ℕ) → x + 8 + m ≤ length f → length (part_at f x m) ≡ m
part_length f x m h =
    let n : length (drop (x + 8) f) ≡ length f - (x + 8) = length-drop (x + 8) f in
    ap length (part-is f x m) ∙ length-take-le m (drop (x + 8) f) (omega arith)

pub part_room : (f : List ℕ) (x m : ℕ) → x + 8 + m ≤ length f → length f ≤ 16777216 → x + 8 + length (part_at f x m) < 9223372036854775808
part_room f x m h s = let q = part_length f x m h in omega arith

module _ (profile : ℕ) (f : List ℕ) where
  pub rdes_no : (k p : ℕ) → located_of profile f RDes ≡ Refused k p → rdes_verdict profile f ≡ refuse k p
  unfolding rdes_verdict
  rdes_no k p e = rw e

  pub rdes_none : located_of profile f RDes ≡ Ok located.Nothing → rdes_verdict profile f ≡ accept
  unfolding rdes_verdict
  rdes_none e = rw e

  pub rdes_one : (x m : ℕ) → located_of profile f RDes ≡ Ok (located.One x m) → rdes_verdict profile f ≡ chunk_fault (part_at f x m) x
  unfolding rdes_verdict
  rdes_one x m e = rw (e, part-is f x m)

  pub rdes_more : (x m y : ℕ) → located_of profile f RDes ≡ Ok (located.More x m y) → rdes_verdict profile f ≡ chunk_fault (part_at f x m) x then refuse 36 y
  unfolding rdes_verdict
  rdes_more x m y e = rw (e, part-is f x m)

-- of an opened 'RDes' with these data
pub record Ready (profile : ℕ) (f : List ℕ) (e : Placed) : Type 0 where
  pub accepted : profile_verdict profile f ≡ accept
  pub room : e.start + 8 + length e.bytes ≤ length f
  pub short : length f ≤ 16777216
  pub some : 4 ≤ length e.bytes
  pub filled : fills_from e.bytes (rd32 e.bytes) 4 ≡ true

pub ready : (profile : ℕ) (f : List ℕ) (e : Placed) → IsOpened profile f e → Ready profile f e
unfolding chunk_fault
ready profile f e o =
    let x : ℕ = e.start in
    let m : ℕ = length e.bytes in
    let c = then_accept _ _ (sym (rdes_one profile f x m o.one) ∙ o.good) in
    let a = fills-all (part_at f x m) (check_accept _ _ _ c.0) in
    let same : part_at f x m ≡ e.bytes = part-is f x m ∙ sym o.bytes in
    record {
      accepted = located_accepts profile f RDes _ o.one;
      room = (located_stood profile f RDes _ o.one).room;
      short = located_short profile f RDes _ o.one;
      some = rw same at a.0;
      filled = rw same at a.1;
    }

-- the one good 'RDes' of a file is opened so
pub opened-one : (profile : ℕ) (f : List ℕ) (x m : ℕ) → located_of profile f RDes ≡ Ok (located.One x m) → rdes_verdict profile f ≡ accept
    → IsOpened profile f (record { bytes = data_at f x m; start = x })
opened-one profile f x m one good =
    let n : length (data_at f x m) ≡ m = sym (ap length (part-is f x m)) ∙ part_length f x m (located_stood profile f RDes _ one).room in
    record {
      one = rw n one;
      good = good;
      bytes = rw n refl;
    }

-- so is what the code opens
pub opened_at : (profile : ℕ) (f : List ℕ) (x m : ℕ) (e : Placed) → located_of profile f RDes ≡ Ok (located.One x m)
    → accept ≡ chunk_fault (part_at f x m) x → e.bytes ≡ part_at f x m → e.start ≡ x → IsOpened profile f e
opened_at profile f x m e one good eb es =
    let same : record { bytes = data_at f x m; start = x } ≡ e = λ i. record { bytes = (sym (part-is f x m) ∙ sym eb) i; start = sym es i } in
    subst (λ (p : Placed). IsOpened profile f p) same (opened-one profile f x m one (rdes_one profile f x m one ∙ sym good))

-- how the code answers 22
pub not_there_is : {A : Type 0} (x : Option A) (e : Refusal) → e ≡ (22, 0) → ok_or x e ≡ or_22 x
not_there_is (Some a) e q = refl
not_there_is None e q = ap Err q

-- the ways out of describe
module _ (profile : ℕ) (f : List ℕ) (i : ℕ) where
  pub described_no : (k p : ℕ) → rdes_verdict profile f ≡ refuse k p → Refused k p ≡ described_of profile f i
  unfolding described_of
  described_no k p e = rw e

  pub described-none : located_of profile f RDes ≡ Ok located.Nothing → rdes_verdict profile f ≡ accept → Refused 22 0 ≡ described_of profile f i
  unfolding described_of
  described-none e v = rw (v, e)

  pub described-is : (e : Placed) → IsOpened profile f e → or_22 (get_of e.bytes e.start i) ≡ described_of profile f i
  unfolding described_of
  described-is e o = rw (o.good, o.one, ← o.bytes)

-- what describe gives lies in the file
pub described_in : (profile : ℕ) (f : List ℕ) (i : ℕ) (r : Described) → described_of profile f i ≡ Ok r → r.start + r.length ≤ length f
unfolding described_of
described_in profile f i r e = go (rdes_verdict profile f) refl (located_of profile f RDes) refl e
  where
    inside : (p : Placed) → Ready profile f p → (b : Bool) → ltb i (rd32 p.bytes) ≡ b
        → or_22 (cond b (Some (given_at p.bytes p.start (offset_of p.bytes i 4))) None) ≡ Ok r → r.start + r.length ≤ length f
    inside p y true t e =
        let o = (entry-room p.bytes (rd32 p.bytes) i 4 (ltb-true _ _ t) y.filled).text in
        let same : given_at p.bytes p.start (offset_of p.bytes i 4) ≡ r = cc in
        let ea : p.start + 8 + offset_of p.bytes i 4 + 12 ≡ r.start = ap (λ (d : Described). d.start) same in
        let en : size_at p.bytes (offset_of p.bytes i 4) ≡ r.length = ap (λ (d : Described). d.length) same in
        let l = y.room in
        omega arith
    inside p y false t e = absurd (not_refused (sym e))

    go : (v : Verdict) → rdes_verdict profile f ≡ v → (q : Result Located Refusal) → located_of profile f RDes ≡ q
        → answered_by v (of_one (λ x m. get_of (data_at f x m) x i) q) ≡ Ok r → r.start + r.length ≤ length f
    go (refuse k p) ev q eq e = absurd (not_refused (sym e))
    go accept ev (Ok located.Nothing) eq e = absurd (not_refused (sym e))
    go accept ev (Ok (located.More x m y)) eq e = absurd (not_refused (sym e))
    go accept ev (Refused k p) eq e = absurd (not_refused (sym e))
    go accept ev (Ok (located.One x m)) eq e =
        inside (record { bytes = data_at f x m; start = x }) (ready profile f _ (opened-one profile f x m eq ev)) (ltb i (rd32 (data_at f x m))) refl e

-- the ways out of tell
module _ (profile : ℕ) (f : List ℕ) (u k : ℕ) where
  pub told_no : (r p : ℕ) → rdes_verdict profile f ≡ refuse r p → Refused r p ≡ told_of profile f u k
  unfolding told_of
  told_no r p e = rw e

  either_way : (b : Bool) → ◌≡◌ {A = Result Told Refusal} (Refused 22 0) (cond b (Refused 22 0) (Refused 22 0))
  either_way true = refl
  either_way false = refl

  pub told_none : located_of profile f RDes ≡ Ok located.Nothing → rdes_verdict profile f ≡ accept → Refused 22 0 ≡ told_of profile f u k
  unfolding told_of
  told_none e v = rw (v, e) (either_way (pair_in u k (model f).refs))

  module _ (e : Placed) (o : IsOpened profile f e) where
    pub told_unlisted : pair_in u k (model f).refs ≡ false → Refused 22 0 ≡ told_of profile f u k
    unfolding told_of
    told_unlisted n = rw (o.good, n)

    pub told-listed : pair_in u k (model f).refs ≡ true → or_22 (tell_of u k e.bytes e.start) ≡ told_of profile f u k
    unfolding told_of
    told-listed n = rw (o.good, n, o.one, ← o.bytes)

-- what tell names lies in the file
tell_in : (u k : ℕ) (d : List ℕ) (base n at : ℕ) (r : Told) → fills_from d n at ≡ true → tell_from_of u k d base n at ≡ Some r
    → r.start + r.length ≤ base + length d
unfolding tell_from_of
tell_in u k d base zero at r f e = let z : ◌≡◌ {A = ℕ} 0 1 = cc in absurd (omega arith)
tell_in u k d base (suc n) at r f e =
    go (eqb (usage_at d at) u && eqb (number_at d at) k) e (λ q. tell_in u k d base n (next_at d at) r (filled d n at f).1 q)
  where
    go : (b : Bool) → cond b (Some (told_with (base + at + 12) (size_at d at))) (tell_from_of u k d base n (next_at d at)) ≡ Some r
        → (tell_from_of u k d base n (next_at d at) ≡ Some r → r.start + r.length ≤ base + length d) → r.start + r.length ≤ base + length d
    go true q ih =
        let same : told_with (base + at + 12) (size_at d at) ≡ r = cc in
        let ea : base + at + 12 ≡ r.start = ap (λ (t : Told). t.start) same in
        let em : size_at d at ≡ r.length = ap (λ (t : Told). t.length) same in
        omega (arith, (filled d n at f).0.text)
    go false q ih = ih q

pub told_in : (profile : ℕ) (f : List ℕ) (u k : ℕ) (r : Told) → told_of profile f u k ≡ Ok r → r.start + r.length ≤ length f
unfolding told_of
told_in profile f u k r e = go (rdes_verdict profile f) refl (pair_in u k (model f).refs) (located_of profile f RDes) refl e
  where
    some : (x : Option Told) → or_22 x ≡ Ok r → x ≡ Some r
    some (Some t) e = let same : t ≡ r = cc in ap Some same
    some None e = absurd (not_refused (sym e))

    go : (v : Verdict) → rdes_verdict profile f ≡ v → (b : Bool) (q : Result Located Refusal) → located_of profile f RDes ≡ q
        → answered_by v (cond b (of_one (λ x m. tell_of u k (data_at f x m) x) q) (Refused 22 0)) ≡ Ok r → r.start + r.length ≤ length f
    go (refuse n p) ev b q eq e = absurd (not_refused (sym e))
    go accept ev false q eq e = absurd (not_refused (sym e))
    go accept ev true (Ok located.Nothing) eq e = absurd (not_refused (sym e))
    go accept ev true (Ok (located.More x m y)) eq e = absurd (not_refused (sym e))
    go accept ev true (Refused n p) eq e = absurd (not_refused (sym e))
    go accept ev true (Ok (located.One x m)) eq e =
        let y = ready profile f (record { bytes = data_at f x m; start = x }) (opened-one profile f x m eq ev) in
        omega (arith, tell_in u k (data_at f x m) (x + 8) (rd32 (data_at f x m)) 4 r y.filled (some _ e), y.room)
