-- The parts of a buffer that holds a model's file, and what the leaves do to them.
use mathlib.Core.Path.{◌≡◌, refl, sym, ap, ◌∙◌}
use Prim.Native.Nat.{ℕ, ◌+◌, ◌-◌, ◌≤◌, max}
use mathlib.Core.List.{List, [], ◌∷◌, ◌++◌, map, append_assoc}
use mathlib.Core.Bool.{Bool, true, false, cond}
use native.Mathlib.Omega.{arith}
use native.Mathlib.Nat.{sub-zero, max-eq_left, max-eq_right}
use lib.ListN.{length, take, drop, replicate, length-append, length-drop, take-append-drop}
use lib.Seq.{take_at, drop_at, drop-drop, drop-append-add, drop-append-le, length-take-le}
use lib.Dec.{ltb}
use Rattle.blorb.specs.Bytes.{be32, rd32}
use Rattle.blorb.proofs.ByteLaws.{length-be32, rd32-be32}
use Rattle.blorb.specs.Format.{Entry, entry_bytes, entries_bytes}
use Rattle.blorb.specs.Model.{file, model}
use Rattle.blorb.specs.All.{All}
use Rattle.blorb.proofs.Codec.{EntryOk}
use Rattle.edits.specs.Starts.{moved}
use Rattle.edits.specs.Run.{noted, written}
use Rattle.edits.proofs.Noted.{noted-after, noted-over}
use Rattle.moves.specs.Shift.{slid}
use Rattle.moves.specs.Moves.{starts_moved, relocated}
use Rattle.moves.specs.declared.Move.{Move}
use Rattle.rewrite.specs.Rewriting.{Stands}

-- lengths and parts
pub entries-append : (a b : List Entry) → entries_bytes (a ++ b) ≡ entries_bytes a ++ entries_bytes b
unfolding entries_bytes
entries-append [] b = refl
entries-append (e ∷ a) b = rw (entries-append a b) (sym (append_assoc (entry_bytes e) (entries_bytes a) (entries_bytes b)))

pub entries-cons : (e : Entry) (es : List Entry) → entries_bytes (e ∷ es) ≡ entry_bytes e ++ entries_bytes es
unfolding entries_bytes
entries-cons e es = refl

pub length-entry : (e : Entry) → length (entry_bytes e) ≡ 12
unfolding entry_bytes
length-entry e = simp (length-append, length-be32)

pub entry-bytes : (u n x : ℕ) → entry_bytes (record { usage = u; number = n; start = x }) ≡ be32 u ++ (be32 n ++ be32 x)
unfolding entry_bytes
entry-bytes u n x = refl

-- a slide is a write of what stood elsewhere
pub slid-noted : (b : List ℕ) (dst src n : ℕ) → src + n ≤ length b → slid b dst src n ≡ noted b dst (take n (drop src b))
unfolding noted
slid-noted b dst src n h =
    let l : length (take n (drop src b)) ≡ n = length-take-le n (drop src b) (simp length-drop (omega arith)) in
    rw l (append_assoc (take dst b) (take n (drop src b)) (drop (dst + n) b))

-- a gap of k bytes is opened before c
pub gap : (p c r : List ℕ) (at k : ℕ) → length p ≡ at → k ≤ length r → noted (p ++ (c ++ r)) (at + k) c ≡ p ++ (take k (c ++ r) ++ (c ++ drop k r))
gap p c r at k e h =
    let s : List ℕ = c ++ r in
    let l : length (take k s) ≡ k = length-take-le k s (simp length-append (omega arith)) in
    let q : p ++ s ≡ (p ++ take k s) ++ drop k s = ap (λ (x : List ℕ). p ++ x) (sym (take-append-drop k s)) ∙ sym (append_assoc p (take k s) (drop k s)) in
    let w : k + length c ≡ length c + k = omega arith in
    let d : drop (length c) (drop k s) ≡ drop k r = drop-drop (length c) k s ∙ ap (λ (n : ℕ). drop n s) w ∙ drop-append-add c r k in
    let g : noted ((p ++ take k s) ++ drop k s) (at + k) c ≡ (p ++ take k s) ++ (c ++ drop (length c) (drop k s))
    = noted-after (p ++ take k s) (drop k s) c (at + k) (simp length-append (omega arith)) in
    ap (λ (x : List ℕ). noted x (at + k) c) q ∙ g ∙ ap (λ (x : List ℕ). (p ++ take k s) ++ (c ++ x)) d ∙ append_assoc p (take k s) (c ++ drop k r)

-- the part s goes k to the right
pub slid_right : (p s r : List ℕ) (at k n : ℕ) → length p ≡ at → length s ≡ n → k ≤ length r → slid (p ++ (s ++ r)) (at + k) at n ≡ p
    ++ (take k (s ++ r) ++ (s ++ drop k r))
slid_right p s r at k n ep es h =
    let lw : length (p ++ (s ++ r)) ≡ length p + (length s + length r) = simp length-append in
    let part : take n (drop at (p ++ (s ++ r))) ≡ s = ap (take n) (drop_at p (s ++ r) at ep) ∙ take_at s r n es in
    slid-noted (p ++ (s ++ r)) (at + k) at n (omega arith) ∙ ap (noted (p ++ (s ++ r)) (at + k)) part ∙ gap p s r at k ep h

-- what a part leaves behind it where it goes to the left
pub left_behind : (x s : List ℕ) (k n : ℕ) → length x ≡ k → length s ≡ n → length (drop n (x ++ s)) ≡ k
left_behind x s k n ex es = length-drop n (x ++ s) ∙ ap (λ (z : ℕ). z - n) (length-append x s) ∙ omega arith

-- the part s goes to the left, over x
pub slid_left : (p x s t : List ℕ) (at k n : ℕ) → length p ≡ at → length x ≡ k → length s ≡ n → slid (p ++ (x ++ (s ++ t))) at (at + k) n ≡ (p ++ s)
    ++ (drop n (x ++ s) ++ t)
slid_left p x s t at k n ep ex es =
    let w : List ℕ = p ++ (x ++ (s ++ t)) in
    let lw : length w ≡ length p + (length x + (length s + length t)) = simp length-append in
    let px : length (p ++ x) ≡ at + k = length-append p x ∙ omega arith in
    let ls : length (x ++ s) ≡ length x + length s = length-append x s in
    let part : take n (drop (at + k) w) ≡ s
    = ap (λ (z : List ℕ). take n (drop (at + k) z)) (sym (append_assoc p x (s ++ t))) ∙ ap (take n) (drop_at (p ++ x) (s ++ t) (at + k) px)
    ∙ take_at s t n es in
    let rest : drop (length s) (x ++ (s ++ t)) ≡ drop n (x ++ s) ++ t
    = (λ i. drop (es i) (sym (append_assoc x s t) i)) ∙ drop-append-le n (x ++ s) t (omega arith) in
    slid-noted w at (at + k) n (omega arith) ∙ ap (noted w at) part ∙ noted-after p (x ++ (s ++ t)) s at ep
    ∙ ap (λ (z : List ℕ). p ++ (s ++ z)) rest ∙ sym (append_assoc p s (drop n (x ++ s) ++ t))

entry_seam : (p : List ℕ) (u n s : ℕ) (r : List ℕ) → p ++ ((be32 u ++ (be32 n ++ be32 s)) ++ r) ≡ (p ++ (be32 u ++ be32 n)) ++ (be32 s ++ r)
entry_seam p u n s r = simp append_assoc

-- the starts of entries that stand behind p
pub starts_moved_lem : (f : ℕ → ℕ) (p : List ℕ) (es : List Entry) (s : List ℕ) (at : ℕ) → length p ≡ at → All EntryOk es
    → starts_moved f (length es) at (p ++ (entries_bytes es ++ s)) ≡ p ++ (entries_bytes (map (moved f) es) ++ s)
unfolding starts_moved entries_bytes entry_bytes
starts_moved_lem f p [] s at e ok = refl
starts_moved_lem f p (x ∷ es) s at e ok =
    let r : List ℕ = entries_bytes es ++ s in
    let q : List ℕ = p ++ (be32 x.usage ++ be32 x.number) in
    let lq : length q ≡ at + 8 = simp (length-append, length-be32) (omega arith) in
    let split : p ++ (((be32 x.usage ++ (be32 x.number ++ be32 x.start)) ++ entries_bytes es) ++ s) ≡ q ++ (be32 x.start ++ r)
    = ap (λ (l : List ℕ). p ++ l) (append_assoc (be32 x.usage ++ (be32 x.number ++ be32 x.start)) (entries_bytes es) s) ∙ entry_seam p x.usage
    x.number x.start r in
    let rd : rd32 (drop (at + 8) (q ++ (be32 x.start ++ r))) ≡ x.start
    = ap rd32 (drop_at q (be32 x.start ++ r) (at + 8) lq) ∙ rd32-be32 x.start r ok.0.start_fits in
    let y : List ℕ = be32 x.usage ++ (be32 x.number ++ be32 (f x.start)) in
    let put : noted (q ++ (be32 x.start ++ r)) (at + 8) (be32 (f x.start)) ≡ (p ++ y) ++ r
    = noted-over q (be32 x.start) r (be32 (f x.start)) (at + 8) lq (simp length-be32)
    ∙ sym (entry_seam p x.usage x.number (f x.start) r) ∙ sym (append_assoc p y r) in
    let B : List ℕ → List ℕ = λ b. starts_moved f (length es) (at + 12) (noted b (at + 8) (be32 (f (rd32 (drop (at + 8) b))))) in
    let g : B (q ++ (be32 x.start ++ r)) ≡ starts_moved f (length es) (at + 12) ((p ++ y) ++ r)
    = ap (λ (v : ℕ). starts_moved f (length es) (at + 12) (noted (q ++ (be32 x.start ++ r)) (at + 8) (be32 (f v)))) rd
    ∙ ap (starts_moved f (length es) (at + 12)) put in
    ap B split ∙ g ∙ starts_moved_lem f (p ++ y) es s (at + 12) (simp (length-append, length-be32) (omega arith)) ok.1
    ∙ append_assoc p y (entries_bytes (map (moved f) es) ++ s) ∙ ap (λ (l : List ℕ). p ++ l) (sym (append_assoc y (entries_bytes (map (moved f) es)) s))

-- starts that all move alike
pub relocated_alike : (m : Move) (k : ℕ) → m.behind.up ≡ k → m.behind.down ≡ 0 → m.others.up ≡ k → m.others.down ≡ 0 → relocated m ≡ (λ (t : ℕ). t + k)
unfolding relocated
relocated_alike m k a b c d = λ i t. all t i
  where
    both : (t : ℕ) (x : Bool) → cond x (t + k - 0) (t + k - 0) ≡ t + k
    both t true = sub-zero (t + k)
    both t false = sub-zero (t + k)

    all : (t : ℕ) → cond (ltb m.limit t) (t + m.behind.up - m.behind.down) (t + m.others.up - m.others.down) ≡ t + k
    all t = rw (a, b, c, d) (both t (ltb m.limit t))

-- a file that is no shorter than the one it replaces
pub written-longer : (b : List ℕ) (L : ℕ) (f : List ℕ) → L ≤ length f → written b L f ≡ f ++ drop (length f) b
unfolding written
written-longer b L f h =
    let e : L - length f ≡ 0 = omega arith in
    rw (e, max-eq_right h)

-- a file that is z bytes shorter
pub written-shorter : (b : List ℕ) (L z : ℕ) (f : List ℕ) → length f + z ≡ L → written b L f ≡ f ++ (replicate z 0 ++ drop L b)
unfolding written
written-shorter b L z f h =
    let e : L - length f ≡ z = omega arith in
    let x : max L (length f) ≡ L = max-eq_left (omega arith) in
    λ i. f ++ (replicate {A = ℕ} (e i) 0 ++ drop (x i) b)

-- the last of four parts apart from the others
pub last_apart : (a b c d : List ℕ) → a ++ (b ++ (c ++ d)) ≡ (a ++ (b ++ c)) ++ d
last_apart a b c d = simp append_assoc

-- the file of the model is as long as the file
pub stands_length : (b : List ℕ) (l k : ℕ) → Stands b l k → length (file (model (take l b))) ≡ l
stands_length b l k st = ap length st.whole ∙ length-take-le l b st.inside
