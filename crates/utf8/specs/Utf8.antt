-- UTF-8 by RFC 3629, section 4: the table of the byte sequences of a character, and the longest good beginning of a text (02, P7).
use Rattle.std.specs.Prelude.{◌≡◌, ℕ, zero, suc, ◌+◌, List, [], ◌∷◌, ◌++◌, Bool, true, false, ◌&&◌, cond, length, drop, leb}

-- bytes from low to high, both in
pub record Range : Type 0 where
  pub low : ℕ
  pub high : ℕ

abbrev pub range : ℕ → ℕ → Range
range a b = record { low = a; high = b }

abbrev pub in_range : Range → ℕ → Bool
in_range r b = leb r.low b && leb b r.high

-- "UTF8-tail = %x80-BF"
abbrev pub tail_byte : Range
tail_byte = range 128 191

-- the table, a row for each sequence that the RFC names:
-- "UTF8-1 = %x00-7F; UTF8-2 = %xC2-DF UTF8-tail;
-- UTF8-3 = %xE0 %xA0-BF UTF8-tail / %xE1-EC 2( UTF8-tail ) / %xED %x80-9F UTF8-tail / %xEE-EF 2( UTF8-tail );
-- UTF8-4 = %xF0 %x90-BF 2( UTF8-tail ) / %xF1-F3 3( UTF8-tail ) / %xF4 %x80-8F 2( UTF8-tail )"
unfoldable pub forms : List (List Range)
forms =
    (range 0 127 ∷ [])
    ∷ ((range 194 223 ∷ (tail_byte ∷ []))
    ∷ ((range 224 224 ∷ (range 160 191 ∷ (tail_byte ∷ [])))
    ∷ ((range 225 236 ∷ (tail_byte ∷ (tail_byte ∷ [])))
    ∷ ((range 237 237 ∷ (range 128 159 ∷ (tail_byte ∷ [])))
    ∷ ((range 238 239 ∷ (tail_byte ∷ (tail_byte ∷ [])))
    ∷ ((range 240 240 ∷ (range 144 191 ∷ (tail_byte ∷ (tail_byte ∷ []))))
    ∷ ((range 241 243 ∷ (tail_byte ∷ (tail_byte ∷ (tail_byte ∷ []))))
    ∷ ((range 244 244 ∷ (range 128 143 ∷ (tail_byte ∷ (tail_byte ∷ []))))
    ∷ []))))))))

-- s begins with bytes in these ranges
unfoldable pub begins : List Range → List ℕ → Bool
begins [] s = true
begins (r ∷ rs) [] = false
begins (r ∷ rs) (b ∷ s) = in_range r b && begins rs s

-- the length of the first of these rows that s begins with, 0 if it begins with none
unfoldable pub form_length : List (List Range) → List ℕ → ℕ
form_length [] s = 0
form_length (f ∷ fs) s = cond (begins f s) (length f) (form_length fs s)

-- the length of the character that s begins with, 0 if there is none
unfoldable pub char_length : List ℕ → ℕ
char_length s = form_length forms s

-- "UTF8-octets = *( UTF8-char )"
pub data Utf8 : List ℕ → Type 0 where
  none : Utf8 []
  char : (c s : List ℕ) → char_length c ≡ length c → (length c ≡ 0 → ⊥) → Utf8 s → Utf8 (c ++ s)

-- the length of the whole characters at the front of s; k bounds their number
abbrev pub on_char : ℕ → (ℕ → ℕ) → ℕ
on_char zero k = 0
on_char (suc n) k = k (suc n)

unfoldable pub good_in : ℕ → List ℕ → ℕ
good_in zero s = 0
good_in (suc k) s = on_char (char_length s) (λ n. n + good_in k (drop n s))

-- the length of "its longest good beginning" (02, P7); that this beginning is UTF-8 and none longer is: proofs/Longest
unfoldable pub good_length_of : List ℕ → ℕ
good_length_of s = good_in (length s) s
