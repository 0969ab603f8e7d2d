-- The content of a buffer that is being edited: the leaves act on `written b L f` as on f.
use mathlib.Core.Path.{◌≡◌, refl, sym, ap, ◌∙◌}
use Prim.Native.Nat.{ℕ, zero, suc, ◌+◌, ◌-◌, ◌≤◌, ◌<◌, max}
use mathlib.Core.List.{List, ◌++◌, map, append_assoc}
use mathlib.Core.Bool.{Bool, true, false, cond}
use native.Mathlib.Omega.{arith}
use native.Mathlib.Nat.{max-eq_left, le_of_suc-le-suc, not-suc-le-zero}
use lib.Dec.{leb, ltb}
use borrow.Author.Tests.{leb-true, leb-false, ltb-true, ltb-false}
use lib.ListN.{length, take, drop, replicate, length-append, length-drop, length-replicate, take-append-drop, replicate-append-replicate}
use lib.Seq.{drop-drop, drop-append-add, length-take-le}
use Rattle.blorb.specs.Format.{Entry, entries_bytes}
use Rattle.blorb.specs.All.{All}
use Rattle.blorb.proofs.Codec.{EntryOk}
use Rattle.edits.specs.Starts.{moved}
use Rattle.edits.specs.Run.{noted, written}
use Rattle.edits.proofs.RunLaws.{length-written}
use Rattle.edits.proofs.Noted.{noted-over}
use Rattle.moves.specs.Shift.{slid}
use Rattle.moves.specs.Moves.{starts_moved}
use Rattle.rewrite.specs.Rewriting.{closed, resized}
use Rattle.rewrite.proofs.Writes.{left_behind, slid_left, slid_right, starts_moved_lem, last_apart}

zeros : (k a n : ℕ) → k + a ≡ n → replicate {A = ℕ} k 0 ++ replicate a 0 ≡ replicate n 0
zeros k a n e = rw (replicate-append-replicate {A = ℕ} k a 0, e)

drop-zeros : (k a : ℕ) (r : List ℕ) → k ≤ a → drop k (replicate a 0 ++ r) ≡ replicate (a - k) 0 ++ r
drop-zeros zero a r h = let e : a ≡ a - 0 = omega arith in ap (λ (z : ℕ). replicate z 0 ++ r) e
drop-zeros (suc k) zero r h = absurd (not-suc-le-zero h)
drop-zeros (suc k) (suc a) r h = let e : suc a - suc k ≡ a - k = omega arith in rw e (drop-zeros k a r (le_of_suc-le-suc h))

module _ (b : List ℕ) (L : ℕ) where
  -- what stands behind a content of n bytes
  abbrev pub tail : ℕ → List ℕ
  tail n = replicate (L - n) 0 ++ drop (max L n) b

  pub written-tail : (f : List ℕ) → written b L f ≡ f ++ tail (length f)
  unfolding written
  written-tail f = refl

  -- the buffer before the first change
  pub written-first : L ≤ length b → b ≡ written b L (take L b)
  written-first h =
      let l : length (take L b) ≡ L = length-take-le L b h in
      let z : L - L ≡ 0 = omega arith in
      let x : max L L ≡ L = max-eq_left (omega arith) in
      sym (written-tail (take L b) ∙ rw (l, z, x) (take-append-drop L b))

  -- a write over a part
  pub put_written : (p x s y : List ℕ) (at : ℕ) → length p ≡ at → length x ≡ length y → noted (written b L (p ++ (x ++ s))) at y ≡ written b L (p ++ (y ++ s))
  put_written p x s y at e l =
      let n : length (p ++ (x ++ s)) ≡ length (p ++ (y ++ s)) = simp length-append (omega arith) in
      let t : List ℕ = tail (length (p ++ (x ++ s))) in
      let a : written b L (p ++ (x ++ s)) ≡ p ++ (x ++ (s ++ t)) = written-tail (p ++ (x ++ s)) ∙ simp append_assoc in
      let c : p ++ (y ++ (s ++ t)) ≡ (p ++ (y ++ s)) ++ t = simp append_assoc in
      ap (λ (z : List ℕ). noted z at y) a ∙ noted-over p x (s ++ t) y at e l ∙ c ∙ ap (λ (z : ℕ). (p ++ (y ++ s)) ++ tail z) n
      ∙ sym (written-tail (p ++ (y ++ s)))

  -- the starts of entries
  pub starts_written : (f : ℕ → ℕ) (p : List ℕ) (es : List Entry) (s : List ℕ) (at : ℕ) → length p ≡ at → All EntryOk es
      → length (entries_bytes (map (moved f) es)) ≡ length (entries_bytes es)
      → starts_moved f (length es) at (written b L (p ++ (entries_bytes es ++ s))) ≡ written b L (p ++ (entries_bytes (map (moved f) es) ++ s))
  starts_written f p es s at e ok l =
      let x : List ℕ = entries_bytes es in
      let y : List ℕ = entries_bytes (map (moved f) es) in
      let n : length (p ++ (x ++ s)) ≡ length (p ++ (y ++ s)) = simp length-append (omega arith) in
      let t : List ℕ = tail (length (p ++ (x ++ s))) in
      let a : written b L (p ++ (x ++ s)) ≡ p ++ (x ++ (s ++ t)) = written-tail (p ++ (x ++ s)) ∙ simp append_assoc in
      let c : p ++ (y ++ (s ++ t)) ≡ (p ++ (y ++ s)) ++ t = simp append_assoc in
      ap (starts_moved f (length es) at) a ∙ starts_moved_lem f p es (s ++ t) at e ok ∙ c ∙ ap (λ (z : ℕ). (p ++ (y ++ s)) ++ tail z) n
      ∙ sym (written-tail (p ++ (y ++ s)))

  -- a part goes, what stands behind it closes up, and zeros follow
  pub closed-written : (p x s : List ℕ) (at k len : ℕ) → length p ≡ at → length x ≡ k → length (p ++ (x ++ s)) ≡ len → len ≤ L → L ≤ length b
      → closed (written b L (p ++ (x ++ s))) at len k ≡ written b L (p ++ s)
  unfolding closed
  closed-written p x s at k len ep ex el hl hb =
      let f : List ℕ = p ++ (x ++ s) in
      let t : List ℕ = tail (length f) in
      let w : List ℕ = written b L f in
      let ls : length (x ++ s) ≡ length x + length s = length-append x s in
      let lf : length f ≡ length p + length (x ++ s) = length-append p (x ++ s) in
      let lw : length w ≡ length b = length-written b L f hb (omega arith) in
      let a : w ≡ p ++ (x ++ (s ++ t)) = written-tail f ∙ simp append_assoc in
      let ns : length s ≡ len - (at + k) = omega arith in
      let at0 : at + k - k ≡ at = omega arith in
      let g : List ℕ = drop (len - (at + k)) (x ++ s) in
      let lg : length g ≡ k = left_behind x s k (len - (at + k)) ex ns in
      let w1 : slid w (at + k - k) (at + k) (len - (at + k)) ≡ (p ++ s) ++ (g ++ t)
      = (λ i. slid (a i) (at0 i) (at + k) (len - (at + k))) ∙ slid_left p x s t at k (len - (at + k)) ep ex ns in
      let lps : length (p ++ s) ≡ len - k = length-append p s ∙ omega arith in
      let zs : List ℕ = replicate k 0 in
      let lz : length zs ≡ k = length-replicate {A = ℕ} k 0 in
      let w2 : noted ((p ++ s) ++ (g ++ t)) (len - k) zs ≡ (p ++ s) ++ (zs ++ t) = noted-over (p ++ s) g t zs (len - k) lps (lg ∙ sym lz) in
      let n1 : k + (L - length f) ≡ L - length (p ++ s) = omega arith in
      let m1 : max L (length f) ≡ L = max-eq_left (omega arith) in
      let m2 : max L (length (p ++ s)) ≡ L = max-eq_left (omega arith) in
      let zn : replicate {A = ℕ} k 0 ++ replicate (L - length f) 0 ≡ replicate (L - length (p ++ s)) 0 = zeros k (L - length f) (L - length (p ++ s)) n1 in
      let mm : max L (length f) ≡ max L (length (p ++ s)) = m1 ∙ sym m2 in
      let fin : zs ++ t ≡ tail (length (p ++ s))
      = sym (append_assoc zs (replicate (L - length f) 0) (drop (max L (length f)) b))
      ∙ (λ i. zn i ++ drop (mm i) b) in
      ap (λ (z : List ℕ). noted z (len - k) zs) w1 ∙ w2 ∙ ap (λ (z : List ℕ). (p ++ s) ++ z) fin ∙ sym (written-tail (p ++ s))

  -- what stands behind a longer content
  pub drop-tail : (n k : ℕ) → drop k (tail n) ≡ tail (n + k)
  drop-tail n k = go (leb k (L - n)) refl
    where
      go : (x : Bool) → leb k (L - n) ≡ x → drop k (replicate (L - n) 0 ++ drop (max L n) b) ≡ replicate (L - (n + k)) 0 ++ drop (max L (n + k)) b
      go true e =
          let h : k ≤ L - n = leb-true _ _ e in
          let a : L - n - k ≡ L - (n + k) = omega arith in
          let c : max L n ≡ max L (n + k) = omega arith in
          drop-zeros k (L - n) (drop (max L n) b) h ∙ (λ i. replicate {A = ℕ} (a i) 0 ++ drop (c i) b)
      go false e =
          let h : L - n < k = leb-false _ _ e in
          let zs : List ℕ = replicate (L - n) 0 in
          let lz : length zs ≡ L - n = length-replicate {A = ℕ} (L - n) 0 in
          let q : k ≡ length zs + (k - (L - n)) = omega arith in
          let a : max L n + (k - (L - n)) ≡ max L (n + k) = omega arith in
          let d : L - (n + k) ≡ 0 = omega arith in
          ap (λ (z : ℕ). drop z (zs ++ drop (max L n) b)) q ∙ drop-append-add zs (drop (max L n) b) (k - (L - n)) ∙ drop-drop (k - (L - n)) (max L n) b
          ∙ ap (λ (z : ℕ). drop z b) a ∙ ap (λ (z : ℕ). replicate {A = ℕ} z 0 ++ drop (max L (n + k)) b) (sym d)

  -- a gap of k bytes is opened before s
  pub gap_written : (p s : List ℕ) (at k len : ℕ) → length p ≡ at → length (p ++ s) ≡ len → len + k ≤ length b → L ≤ length b
      → slid (written b L (p ++ s)) (at + k) at (len - at) ≡ written b L (p ++ (take k (s ++ tail (length (p ++ s))) ++ s))
  gap_written p s at k len ep el hr hb =
      let f : List ℕ = p ++ s in
      let t : List ℕ = tail (length f) in
      let w : List ℕ = written b L f in
      let lf : length f ≡ length p + length s = length-append p s in
      let lw : length w ≡ length b = length-written b L f hb (omega arith) in
      let a : w ≡ p ++ (s ++ t) = written-tail f ∙ append_assoc p s t in
      let lt : length t ≡ length b - length f = length-append (replicate (L - length f) 0) (drop (max L (length f)) b)
      ∙ (let x : length (replicate {A = ℕ} (L - length f) 0) ≡ L - length f = length-replicate {A = ℕ} (L - length f) 0 in
      let y : length (drop (max L (length f)) b) ≡ length b - max L (length f) = length-drop (max L (length f)) b in omega arith) in
      let g : List ℕ = take k (s ++ t) in
      let lg : length g ≡ k = length-take-le k (s ++ t) (let lst : length (s ++ t) ≡ length s + length t = length-append s t in omega arith) in
      let n1 : length f + k ≡ length (p ++ (g ++ s)) = sym (length-append p (g ++ s) ∙ ap (λ (z : ℕ). length p + z) (length-append g s) ∙ omega arith) in
      let fin : p ++ (g ++ (s ++ drop k t)) ≡ written b L (p ++ (g ++ s))
      = ap (λ (z : List ℕ). p ++ (g ++ (s ++ z))) (drop-tail (length f) k ∙ ap tail n1)
      ∙ last_apart p g s (tail (length (p ++ (g ++ s)))) ∙ sym (written-tail (p ++ (g ++ s))) in
      ap (λ (z : List ℕ). slid z (at + k) at (len - at)) a ∙ slid_right p s t at k (len - at) ep (omega arith) (omega arith) ∙ fin

  tail-length : (n : ℕ) → L ≤ length b → length (tail n) ≡ length b - n
  tail-length n hb = length-append (replicate (L - n) 0) (drop (max L n) b) ∙ (let x : length (replicate {A = ℕ} (L - n) 0) ≡ L - n =
      length-replicate {A = ℕ} (L - n) 0 in let y : length (drop (max L n) b) ≡ length b - max L n = length-drop (max L n) b in omega arith)

  seam : (p x g s : List ℕ) → (p ++ x) ++ (g ++ s) ≡ p ++ ((x ++ g) ++ s)
  seam p x g s = simp append_assoc

  -- a part gets another size
  pub record Resized (p s : List ℕ) (new : ℕ) (w : List ℕ) : Type 0 where
    pub hole : List ℕ
    pub hole_length : length hole ≡ new
    pub stands : w ≡ written b L (p ++ (hole ++ s))

  pub resized-written : (p x s : List ℕ) (at old new len : ℕ) → length p ≡ at → length x ≡ old → length (p ++ (x ++ s)) ≡ len → len ≤ L
      → len + (new - old) ≤ length b → L ≤ length b
      → Resized p s new (resized (written b L (p ++ (x ++ s))) at len old new)
  unfolding resized
  resized-written p x s at old new len ep ex el hl hr hb = go (ltb old new) refl
    where
      go : (t : Bool) → ltb old new ≡ t → Resized p s new (cond t (slid (written b L (p ++ (x ++ s))) (at + old + (new - old)) (at + old) (len - (at + old)))
          (closed (written b L (p ++ (x ++ s))) (at + new) len (old - new)))
      go true e =
          let lt : old < new = ltb-true old new e in
          let q : p ++ (x ++ s) ≡ (p ++ x) ++ s = sym (append_assoc p x s) in
          let g : List ℕ = take (new - old) (s ++ tail (length ((p ++ x) ++ s))) in
          let lpx : length (p ++ x) ≡ at + old = length-append p x ∙ omega arith in
          let lq : length ((p ++ x) ++ s) ≡ len = ap length (sym q) ∙ el in
          let lt2 : length (tail (length ((p ++ x) ++ s))) ≡ length b - len = tail-length (length ((p ++ x) ++ s)) hb ∙ ap (λ (z : ℕ). length b - z) lq in
          let lg : length g ≡ new - old = length-take-le (new - old) (s ++ tail (length ((p ++ x) ++ s)))
          (let l : length (s ++ tail (length ((p ++ x) ++ s))) ≡ length s + length (tail (length ((p ++ x) ++ s))) =
          length-append s (tail (length ((p ++ x) ++ s))) in omega arith) in
          record {
            hole = x ++ g;
            hole_length = length-append x g ∙ omega arith;
            stands = ap (λ (z : List ℕ). slid (written b L z) (at + old + (new - old)) (at + old) (len - (at + old))) q
                ∙ gap_written (p ++ x) s (at + old) (new - old) len lpx lq hr hb ∙ ap (written b L) (seam p x g s);
          }
      go false e =
          let le : new ≤ old = ltb-false old new e in
          let xa : List ℕ = take new x in
          let xb : List ℕ = drop new x in
          let lxa : length xa ≡ new = length-take-le new x (omega arith) in
          let lxb : length xb ≡ old - new = length-drop new x ∙ omega arith in
          let q : p ++ (x ++ s) ≡ (p ++ xa) ++ (xb ++ s) = ap (λ (z : List ℕ). p ++ (z ++ s)) (sym (take-append-drop new x)) ∙ sym (seam p xa xb s) in
          let lp : length (p ++ xa) ≡ at + new = length-append p xa ∙ omega arith in
          record {
            hole = xa;
            hole_length = lxa;
            stands = ap (λ (z : List ℕ). closed (written b L z) (at + new) len (old - new)) q
                ∙ closed-written (p ++ xa) xb s (at + new) (old - new) len lp lxb (ap length (sym q) ∙ el) hl hb ∙ ap (written b L) (append_assoc p xa s);
          }
