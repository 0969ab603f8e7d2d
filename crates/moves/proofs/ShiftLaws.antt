-- Laws of `slid` and of copies: nothing moved, the length, a part more, and a turn of each loop.
use Prim.Native.Nat.{ℕ, ◌+◌, ◌-◌, ◌*◌, ◌≤◌}
use mathlib.Core.Path.{◌≡◌, ap, sym, ◌∙◌}
use mathlib.Core.List.{List, ◌++◌, append_assoc}
use native.Mathlib.Omega.{arith}
use lib.ListN.{take-append-drop, length, take, drop, length-drop}
use lib.Seq.{take-add, take-take, take-paste, drop-drop, take-append-le, drop-append-le, drop_at, paste, paste-zero, length-paste, drop-paste, length-take-le}
use Rattle.moves.specs.Shift.{slid}

pub slid-none : (b : List ℕ) (dst src n : ℕ) → n ≡ 0 → b ≡ slid b dst src n
slid-none b dst src n e = rw e (paste-zero b dst (drop src b))

-- a part moved to where it stands
pub slid_onto : (b : List ℕ) (at n : ℕ) → slid b at at n ≡ b
slid_onto b at n = ap (λ (l : List ℕ). l ++ drop (at + n) b) (sym (take-add at n b)) ∙ take-append-drop (at + n) b

module _ (b : List ℕ) (dst src n : ℕ) (hd : dst + n ≤ length b) (hs : src + n ≤ length b) where
  fits : n ≤ length (drop src b)
  fits = rw length-drop (omega arith)

  pub slid-length : length (slid b dst src n) ≡ length b
  slid-length = length-paste b dst (drop src b) n hd fits

-- a part more of a copy
pub copy_more : (b d : List ℕ) (at i n : ℕ) → at + (i + n) ≤ length b → i + n ≤ length d
    → paste (paste b at d i) (at + i) (drop i d) n ≡ paste b at d (i + n)
copy_more b d at i n h l =
    let m = paste b at d i in
    let q : at + i + n ≡ at + (i + n) = omega arith in
    ap (λ (p : List ℕ). p ++ take n (drop i d) ++ drop (at + i + n) m) (take-paste b at d i (omega arith) (omega arith))
    ∙ ap (λ (p : List ℕ). take at b ++ take i d ++ take n (drop i d) ++ p)
    (sym (drop-drop n (at + i) m) ∙ ap (λ (p : List ℕ). drop n p) (drop-paste b at d i (omega arith) (omega arith)) ∙ drop-drop n (at + i) b
    ∙ ap (λ (k : ℕ). drop k b) q)
    ∙ ap (λ (p : List ℕ). p ++ drop (at + (i + n)) b) (append_assoc (take at b) (take i d) (take n (drop i d)) ∙ ap (λ (p : List ℕ). take at b ++ p)
    (sym (take-add i n d)))

-- a part of a list's front
part-front : (p r : List ℕ) (j n : ℕ) → j + n ≤ length p → take n (drop j (p ++ r)) ≡ take n (drop j p)
part-front p r j n h =
    let l : length (drop j p) ≡ length p - j = length-drop j p in
    ap (λ (x : List ℕ). take n x) (drop-append-le j p r (omega arith)) ∙ take-append-le n (drop j p) r (omega arith)

-- a part more at the front
front_more : (b : List ℕ) (j k n r : ℕ) → j + n + k + r ≤ length b
    → slid (slid b (j + n + k) (j + n) r) (j + k) j n ≡ slid b (j + k) j (n + r)
front_more b j k n r h =
    let m = slid b (j + n + k) (j + n) r in
    let p = take (j + n + k) b in
    let s = drop (j + n + k) b in
    let t = take r (drop (j + n) b) in
    let w = drop (j + n + k + r) b in
    let x = take (j + k) b in
    let y = take n (drop j b) in
    let a : m ≡ p ++ (t ++ w) = append_assoc p t w in
    let lp : length p ≡ j + n + k = length-take-le (j + n + k) b (omega arith) in
    let e1 : take (j + k) m ≡ x = ap (λ (l : List ℕ). take (j + k) l) a ∙ take-append-le (j + k) p (t ++ w) (omega arith) ∙ take-take (j + k) (j + n + k) b
    (omega arith) in
    let e2 : take n (drop j m) ≡ y =
    ap (λ (l : List ℕ). take n (drop j l)) a
    ∙ part-front p (t ++ w) j n (omega arith)
    ∙ sym (part-front p s j n (omega arith))
    ∙ ap (λ (l : List ℕ). take n (drop j l)) (take-append-drop (j + n + k) b) in
    let e3 : drop (j + k + n) m ≡ t ++ w = ap (λ (l : List ℕ). drop (j + k + n) l) a ∙ drop_at p (t ++ w) (j + k + n) (omega arith) in
    let q : j + n + k + r ≡ j + k + (n + r) = omega arith in
    ap (λ (l : List ℕ). l ++ take n (drop j m) ++ drop (j + k + n) m) e1
    ∙ ap (λ (l : List ℕ). x ++ l ++ drop (j + k + n) m) e2
    ∙ ap (λ (l : List ℕ). x ++ y ++ l) e3
    ∙ sym (append_assoc (x ++ y) t w)
    ∙ ap (λ (l : List ℕ). l ++ w)
    (append_assoc x y t
    ∙ ap (λ (l : List ℕ). x ++ (y ++ take r l)) (sym (drop-drop n j b))
    ∙ ap (λ (l : List ℕ). x ++ l) (sym (take-add n r (drop j b))))
    ∙ ap (λ (i : ℕ). x ++ take (n + r) (drop j b) ++ drop i b) q

-- a part more to the right: the part from `j` up to `i`, after the one from `i` on
pub right_more : (b : List ℕ) (j i len k n : ℕ) → j + n ≡ i → i ≤ len → len + k ≤ length b
    → slid (slid b (i + k) i (len - i)) (j + k) j n ≡ slid b (j + k) j (len - j)
right_more b j i len k n e hi hl =
    let f : len - j ≡ n + (len - i) = omega arith in
    rw f
    (ap (λ (z : ℕ). slid (slid b (z + k) z (len - i)) (j + k) j n) (sym e)
    ∙ front_more b j k n (len - i) (omega arith))

-- a part more to the left: the `n` from `i` on, after those before it
pub left_more : (b : List ℕ) (at i k n : ℕ) → k ≤ at → at ≤ i → i + n ≤ length b
    → slid (slid b (at - k) at (i - at)) (i - k) i n ≡ slid b (at - k) at (i + n - at)
left_more b at i k n hk ha hi =
    let d = at - k in
    let r = i - at in
    let m = slid b d at r in
    let e : i - k ≡ d + r = omega arith in
    let f : i + n - at ≡ r + n = omega arith in
    let g : i ≡ d + r + k = omega arith in
    let g' : d + r + k ≡ at + r = omega arith in
    let l : length (drop at b) ≡ length b - at = length-drop at b in
    let q : drop i m ≡ drop r (drop at b) =
    ap (λ (x : ℕ). drop x m) g
    ∙ sym (drop-drop k (d + r) m)
    ∙ ap (λ (x : List ℕ). drop k x) (drop-paste b d (drop at b) r (omega arith) (omega arith))
    ∙ drop-drop k (d + r) b
    ∙ ap (λ (x : ℕ). drop x b) g'
    ∙ sym (drop-drop r at b) in
    rw f
    (ap (λ (x : List ℕ). paste m (i - k) x n) q
    ∙ ap (λ (x : ℕ). paste m x (drop r (drop at b)) n) e
    ∙ copy_more b (drop at b) d r n (omega arith) (omega arith))

-- how far the first `p` parts of the bytes from `at` up to `len` reach
abbrev pub reached : ℕ → ℕ → ℕ → ℕ
reached at len p = len - (len - (at + p * 2048))

-- m is b with the bytes from `i` up to `len` moved to the right
abbrev pub Right : List ℕ → ℕ → ℕ → ℕ → List ℕ → ℕ → Type 0
Right b at len k m i = (at ≤ i) × (i ≤ len) × (length m ≡ length b) × (m ≡ slid b (i + k) i (len - i))

-- m is b with the bytes from `at` up to `i` moved to the left
abbrev pub Left : List ℕ → ℕ → ℕ → ℕ → List ℕ → ℕ → Type 0
Left b at len k m i = (at ≤ i) × (i ≤ len) × (length m ≡ length b) × (m ≡ slid b (at - k) at (i - at))

-- a turn to the right: m before it, m' after it
pub right_part : (b m m' : List ℕ) (at i j len k : ℕ) → m' ≡ slid m (i + k) i (j - i) → Right b at len k m j
    → at ≤ i → i ≤ j → len + k ≤ length b → Right b at len k m' i
right_part b m m' at i j len k s (ha, hj, q, e) hi hn hl =
    let to : m' ≡ slid b (i + k) i (len - i) =
    s ∙ ap (λ (x : List ℕ). slid x (i + k) i (j - i)) e ∙ right_more b i j len k (j - i) (omega arith) hj hl in
    (hi, omega arith, ap length to ∙ slid-length b (i + k) i (len - i) (omega arith) (omega arith), to)

-- a turn to the left
pub left_part : (b m m' : List ℕ) (at i j len k : ℕ) → m' ≡ slid m (i - k) i (j - i) → Left b at len k m i
    → i ≤ j → j ≤ len → k ≤ at → len ≤ length b → Left b at len k m' j
left_part b m m' at i j len k s (ha, hi, q, e) hn hj hk hl =
    let n : i + (j - i) - at ≡ j - at = omega arith in
    let to : m' ≡ slid b (at - k) at (j - at) =
    s
    ∙ ap (λ (x : List ℕ). slid x (i - k) i (j - i)) e
    ∙ left_more b at i k (j - i) hk ha (omega arith)
    ∙ ap (λ (x : ℕ). slid b (at - k) at x) n in
    (omega arith, hj, ap length to ∙ slid-length b (at - k) at (j - at) (omega arith) (omega arith), to)
