-- The faults of entries: those of a beginning come first. So where the first n entries have none, entry n decides, and where no entry has one, there is
-- none.
use mathlib.Core.Path.{◌≡◌, refl, sym, ap, ◌∙◌}
use Prim.Native.Nat.{ℕ, zero, suc, ◌+◌, ◌≤◌, ◌<◌}
use mathlib.Core.List.{List, [], ◌∷◌, ◌++◌, append_assoc, append-nil}
use mathlib.Core.Bool.{true, false, not}
use native.Mathlib.Omega.{arith}
use native.Mathlib.Nat.{not-suc-le-zero}
use lib.ListN.{length, get_or, take, drop, take-append-drop}
use lib.Seq.{take-suc, drop-cons, take-length}
use Rattle.blorb.specs.Verdict.{Verdict, accept, refuse, ◌then◌, check}
use Rattle.blorb.proofs.Checks.{pass, stop, accepts, then_assoc}
use Rattle.utf8.specs.Utf8.{good_length_of}
use Rattle.rdes.specs.Rdes.{Desc, desc, size_at, text_at, next_at, offset_of, fills_from, descs_from, pair_among, good_text, entries_fault}
use Rattle.rdes.proofs.EntryLaws.{filled, text-length}

-- how many bytes these take
abbrev pub span : List Desc → ℕ
span [] = 0
span (e ∷ es) = 12 + length e.text + span es

abbrev pub none : Desc
none = desc 0 0 []

pub fault-append : (earlier pre post : List Desc) (p : ℕ)
    → entries_fault earlier p (pre ++ post) ≡ entries_fault earlier p pre then entries_fault (earlier ++ pre) (p + span pre) post
unfolding entries_fault
fault-append earlier [] post p = let z : p + 0 ≡ p = omega arith in rw (append-nil earlier, z) (sym (accepts _ _ refl))
fault-append earlier (e ∷ pre) post p =
    let next : ℕ = p + 12 + length e.text in
    let s : next + span pre ≡ p + (12 + length e.text + span pre) = omega arith in
    let a : Verdict = check (not (pair_among e.usage e.number earlier)) 38 p in
    let b : Verdict = check (good_text e.text) 39 (p + 12 + good_length_of e.text) in
    let r : Verdict = entries_fault (earlier ++ (e ∷ [])) next pre in
    let q : Verdict = entries_fault (earlier ++ (e ∷ pre)) (p + (12 + length e.text + span pre)) post in
    let ih : entries_fault (earlier ++ (e ∷ [])) next (pre ++ post) ≡ r then q
    = fault-append (earlier ++ (e ∷ [])) pre post next ∙ rw (append_assoc earlier (e ∷ []) pre, s) in
    ap (λ (v : Verdict). a then b then v) ih ∙ sym (then_assoc a (b then r) q ∙ ap (λ (v : Verdict). a then v) (then_assoc b r q))

-- the first n of these repeat no pair, and their texts are good
pub record Clean (ds : List Desc) (n : ℕ) : Type 0 where
  pub fresh : (i : ℕ) → i < n → pair_among (get_or ds i none).usage (get_or ds i none).number (take i ds) ≡ false
  pub good : (i : ℕ) → i < n → good_text (get_or ds i none).text ≡ true

module _ (ds : List Desc) (p : ℕ) where
  -- entry n, after a beginning without faults
  pub fault-at : (n : ℕ) → n < length ds → entries_fault [] p (take n ds) ≡ accept
      → entries_fault [] p ds ≡ entries_fault (take n ds) (p + span (take n ds)) (get_or ds n none ∷ drop (suc n) ds)
  fault-at n h a =
      ap (entries_fault [] p) (sym (take-append-drop n ds) ∙ ap (λ (r : List Desc). take n ds ++ r) (drop-cons ds n none h))
      ∙ fault-append [] (take n ds) (get_or ds n none ∷ drop (suc n) ds) p
      ∙ accepts _ _ a

  module _ (n : ℕ) (c : Clean ds n) where
    clean_to : (k : ℕ) → k ≤ n → k ≤ length ds → entries_fault [] p (take k ds) ≡ accept
    unfolding entries_fault
    clean_to zero h l = refl
    clean_to (suc k) h l =
        let e : Desc = get_or ds k none in
        let v : Verdict = entries_fault (take k ds ++ (e ∷ [])) (p + span (take k ds) + 12 + length e.text) [] in
        let f : not (pair_among e.usage e.number (take k ds)) ≡ true = ap not (c.fresh k (omega arith)) in
        ap (entries_fault [] p) (take-suc ds k none (omega arith))
        ∙ fault-append [] (take k ds) (e ∷ []) p
        ∙ accepts _ _ (clean_to k (omega arith) (omega arith))
        ∙ pass _ _ _ _ f
        ∙ pass _ _ _ v (c.good k (omega arith))

    pub clean_all : length ds ≡ n → entries_fault [] p ds ≡ accept
    clean_all e = ap (entries_fault [] p) (sym (take-length ds) ∙ ap (λ (k : ℕ). take k ds) e) ∙ clean_to n (omega arith) (omega arith)

    module _ (h : n < length ds) where
      pub clean_38 : pair_among (get_or ds n none).usage (get_or ds n none).number (take n ds) ≡ true → entries_fault [] p ds ≡ refuse 38 (p + span (take n ds))
      unfolding entries_fault
      clean_38 e = fault-at n h (clean_to n (omega arith) (omega arith)) ∙ stop _ _ _ _ (ap not e)

      pub clean_39 : pair_among (get_or ds n none).usage (get_or ds n none).number (take n ds) ≡ false → good_text (get_or ds n none).text ≡ false
          → entries_fault [] p ds ≡ refuse 39 (p + span (take n ds) + 12 + good_length_of (get_or ds n none).text)
      unfolding entries_fault
      clean_39 e g = fault-at n h (clean_to n (omega arith) (omega arith)) ∙ pass _ _ _ _ (ap not e) ∙ stop _ _ _ _ g

-- in data that the entries fill, entry i stands behind what those before it take
pub offset-span : (d : List ℕ) (n i at : ℕ) → i ≤ n → fills_from d n at ≡ true → offset_of d i at ≡ at + span (take i (descs_from d n at))
unfolding offset_of descs_from
offset-span d n zero at h e = omega arith
offset-span d zero (suc i) at h e = absurd (not-suc-le-zero h)
offset-span d (suc n) (suc i) at h e =
    let f = filled d n at e in
    let l : length (text_at d at) ≡ size_at d at = text-length d at f.0.text in
    let q : offset_of d i (next_at d at) ≡ next_at d at + span (take i (descs_from d n (next_at d at))) = offset-span d n i (next_at d at) (omega arith) f.1 in
    omega arith
