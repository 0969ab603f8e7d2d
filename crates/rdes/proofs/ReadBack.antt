-- The data that hold a list of descriptions are read as this list: what stands from an entry's offset on are the bytes of the entries that are left.
use mathlib.Core.Path.{◌≡◌, refl, sym, ap, ◌∙◌}
use Prim.Native.Nat.{ℕ, ◌+◌, ◌-◌, ◌≤◌, ◌<◌}
use mathlib.Core.List.{List, [], ◌∷◌, ◌++◌}
use mathlib.Core.Bool.{true}
use native.Mathlib.Omega.{arith}
use lib.ListN.{length, drop, length-drop, length-append}
use lib.Seq.{drop-drop, take_at, drop_at}
use borrow.Author.Tests.{eq-eqb, le-leb}
use Rattle.blorb.specs.Bytes.{be32, rd32}
use Rattle.blorb.specs.All.{All}
use Rattle.blorb.specs.Sound.{W}
use Rattle.blorb.proofs.Checks.{pass}
use Rattle.blorb.proofs.ByteLaws.{length-be32, rd32-be32, drop-be32, drop_two, drop_three}
use Rattle.rdes.specs.Rdes.{Desc, desc, entries_bytes, body_of, Fits, usage_at, number_at, size_at, text_at, next_at, fills_from, fills, descs_from, descs_of}
use Rattle.rdes.specs.Rdes.{entries_fault, chunk_fault}

-- an entry, and what is left of the data behind it
pub record Stands (d : List ℕ) (at : ℕ) (e : Desc) (r : List ℕ) : Type 0 where
  pub usage : usage_at d at ≡ e.usage
  pub number : number_at d at ≡ e.number
  pub size : size_at d at ≡ length e.text
  pub text : text_at d at ≡ e.text
  pub next : next_at d at ≡ at + 12 + length e.text
  pub rest : drop (next_at d at) d ≡ r
  pub long : length (drop at d) ≡ 12 + (length e.text + length r)

pub stands : (d : List ℕ) (at : ℕ) (e : Desc) (r : List ℕ) → Fits e
    → drop at d ≡ be32 e.usage ++ (be32 e.number ++ (be32 (length e.text) ++ (e.text ++ r))) → Stands d at e r
stands d at e r f h =
    let t : List ℕ = e.text in
    let size : size_at d at ≡ length t
    = ap rd32 (sym (drop-drop 8 at d) ∙ ap (drop 8) h ∙ drop_two e.usage e.number _) ∙ rd32-be32 (length t) _ f.text_fits in
    let behind : drop (at + 12) d ≡ t ++ r = sym (drop-drop 12 at d) ∙ ap (drop 12) h ∙ drop_three e.usage e.number (length t) _ in
    let next : next_at d at ≡ at + 12 + length t = ap (λ (n : ℕ). at + 12 + n) size in
    let long : length (drop at d) ≡ 4 + (4 + (4 + (length t + length r))) = ap length h ∙ simp (length-append, length-be32) in
    record {
      usage = ap rd32 h ∙ rd32-be32 e.usage _ f.usage_fits;
      number = ap rd32 (sym (drop-drop 4 at d) ∙ ap (drop 4) h ∙ drop-be32 e.usage _) ∙ rd32-be32 e.number _ f.number_fits;
      size = size;
      text = rw (size, behind) (take_at t r (length t) refl);
      next = next;
      rest = rw next (sym (drop-drop (length t) (at + 12) d) ∙ ap (drop (length t)) behind ∙ drop_at t r (length t) refl);
      long = omega arith;
    }

read_from : (d : List ℕ) (ds : List Desc) (at : ℕ) → All Fits ds → at ≤ length d → drop at d ≡ entries_bytes ds
    → (descs_from d (length ds) at ≡ ds) × (fills_from d (length ds) at ≡ true)
unfolding descs_from entries_bytes fills_from
read_from d [] at f l h =
    let n : length (drop at d) ≡ length d - at = length-drop at d in
    let z : length (drop at d) ≡ 0 = ap length h in
    let e : at ≡ length d = omega arith in
    (refl, eq-eqb at (length d) e)
read_from d (e ∷ es) at f l h =
    let n : length (drop at d) ≡ length d - at = length-drop at d in
    let i = stands d at e (entries_bytes es) f.0 h in
    let g : length (drop at d) ≡ 12 + (length e.text + length (entries_bytes es)) = i.long in
    let x : next_at d at ≡ at + 12 + length e.text = i.next in
    let a : at + 12 ≤ length d = omega arith in
    let b : next_at d at ≤ length d = omega arith in
    let q = read_from d es (next_at d at) f.1 b i.rest in
    (joined e i.usage i.number i.text q.0, rw (le-leb (at + 12) (length d) a, le-leb (next_at d at) (length d) b) q.1)
  where
    joined : (e : Desc) {u k : ℕ} {t : List ℕ} {es fs : List Desc} → u ≡ e.usage → k ≡ e.number → t ≡ e.text → es ≡ fs → desc u k t ∷ es ≡ e ∷ fs
    joined e eu ek et q = rw (eu, ek, et, q)

-- "the same pairs and texts in the same order", and there is no 37
pub read_back : (ds : List Desc) → All Fits ds → length ds < W → (rd32 (body_of ds) ≡ length ds) × (descs_of (body_of ds) ≡ ds) × (fills (body_of ds) ≡ true)
unfolding body_of fills
read_back ds f l =
    let c : rd32 (be32 (length ds) ++ entries_bytes ds) ≡ length ds = rd32-be32 (length ds) _ l in
    let n : 4 ≤ length (be32 (length ds) ++ entries_bytes ds) = simp (length-append, length-be32) (omega arith) in
    let q = read_from (be32 (length ds) ++ entries_bytes ds) ds 4 f n (drop-be32 (length ds) _) in
    (c, rw c q.0, rw (le-leb 4 (length (be32 (length ds) ++ entries_bytes ds)) n, c) q.1)

-- so the faults of such a chunk are those of the list
pub body-fault : (ds : List Desc) (x : ℕ) → All Fits ds → length ds < W → chunk_fault (body_of ds) x ≡ entries_fault [] (x + 12) ds
unfolding chunk_fault
body-fault ds x f l = let q = read_back ds f l in pass _ _ _ _ q.2 ∙ ap (entries_fault [] (x + 12)) q.1
