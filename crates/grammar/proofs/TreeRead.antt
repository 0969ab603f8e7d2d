-- The bytes of an allowed tree are read as its FORMs and no fault: each chunk's header gives back its type and length, so its members are read
-- from the bytes that they were made of, and what stands behind it from there on.
use Prim.Native.Nat.{ℕ, zero, suc, ◌+◌, ◌-◌, ◌%◌, ◌≤◌, ◌<◌}
use mathlib.Core.Path.{◌≡◌, refl, ap, sym, ◌∙◌}
use mathlib.Core.List.{List, [], ◌∷◌, ◌++◌, append_assoc}
use mathlib.Core.Bool.{Bool, true, false, ◌&&◌, ◌||◌}
use native.Mathlib.Omega.{arith}
use native.Mathlib.Nat.{add-zero}
use lib.ListN.{length, get_or, drop, replicate, length-append, length-drop}
use lib.Seq.{drop_at, drop-drop, get_or-drop}
use lib.Dec.{eqb, leb, ltb}
use borrow.Author.Tests.{le-leb, lt-ltb, le-ltb, eq-eqb}
use Rattle.blorb.specs.Bytes.{be32, rd32}
use Rattle.blorb.specs.Format.{Chunk, chunk_of, size, sized, chunk_bytes}
use Rattle.blorb.specs.Sound.{W}
use Rattle.blorb.specs.Verdict.{accept}
use Rattle.blorb.proofs.ByteLaws.{length-be32, rd32-be32, drop-be32, drop_two}
use Rattle.blorb.proofs.Codec.{length-chunk_bytes, first_type, first-length, first_rest}
use Rattle.members.specs.declared.Kind.{Kind}
use Rattle.members.specs.declared.Kind.TheVariants.{Form, List as Lst, Cat, Prop, Plain}
use Rattle.members.specs.declared.Place.{Place}
use Rattle.members.specs.Kinds.{kind_of, nests, is_plain, may_hold_of, behind, within}
use Rattle.members.specs.Faults.{kind_at, size_at, end_at, next_at, fits, padded, member_fault_of}
use Rattle.members.proofs.FaultLaws.{fits_plain, fits-four, fault-none}
use Rattle.groups.specs.Events.{Event, form, chunk_by, members, chunk}
use Rattle.groups.specs.Files.{Row, first_fault, forms}
use Rattle.groups.proofs.EventLaws.{members_end, members_on}
use Rattle.grammar.specs.Tree.{Chunks, none, plain, holder, code_of, bytes, Within, own_row, rows_from}
use Rattle.grammar.proofs.Sentences.{Placed, nests_named}

-- rows as events: FORMs and no fault
unfoldable pub shows : List Row → List Event
shows [] = []
shows (r ∷ rs) = form r.type r.start r.size r.depth ∷ shows rs

pub shows-append : (xs ys : List Row) → shows (xs ++ ys) ≡ shows xs ++ shows ys
unfolding shows
shows-append [] ys = refl
shows-append (r ∷ xs) ys = ap (λ (es : List Event). form r.type r.start r.size r.depth ∷ es) (shows-append xs ys)

pub shows_fine : (rs : List Row) → first_fault (shows rs) ≡ accept
unfolding shows first_fault
shows_fine [] = refl
shows_fine (r ∷ rs) = shows_fine rs

pub shows-forms : (rs : List Row) → forms (shows rs) ≡ rs
unfolding shows forms
shows-forms [] = refl
shows-forms (r ∷ rs) = ap (λ (x : List Row). r ∷ x) (shows-forms rs)

-- no padding byte, or a zero in its parent
pad_holds : (r e end x : ℕ) → r < 2 → e + r ≤ end → (r ≡ 1 → x ≡ 0) → eqb r 0 || (ltb e end && eqb x 0) ≡ true
pad_holds zero e end x h l q = refl
pad_holds (suc zero) e end x h l q = rw (lt-ltb e end (omega arith), eq-eqb x 0 (q refl))
pad_holds (suc (suc r)) e end x h l q = absurd (omega arith)

-- a chunk's bytes at an offset, read there
module _ (f z : List ℕ) (c : Chunk) (at : ℕ) (e : drop at f ≡ chunk_bytes c ++ z) (l : at ≤ length f) (small : length f < W) (typed : c.type < W) where
  pub filled : at + sized (length c.body) + length z ≡ length f
  unfolding size
  filled =
      let k : length f - at ≡ length (chunk_bytes c ++ z) = sym (length-drop at f) ∙ ap length e in
      let n : length (chunk_bytes c ++ z) ≡ sized (length c.body) + length z = length-append (chunk_bytes c) z ∙ rw (length-chunk_bytes c) in
      omega arith

  body_small : length c.body < W
  unfolding sized
  body_small = omega (arith, filled)

  pub type_at : rd32 (drop at f) ≡ c.type
  type_at = rw e (first_type c z typed)

  pub size-at : size_at f at ≡ length c.body
  size-at = rw (← drop-drop 4 at f, e) (first-length c z body_small)

  pub body_at : drop (at + 8) f ≡ c.body ++ (replicate (length c.body % 2) 0 ++ z)
  unfolding chunk_bytes
  body_at =
      let parts : drop at f ≡ be32 c.type ++ (be32 (length c.body) ++ (c.body ++ (replicate (length c.body % 2) 0 ++ z)))
      = rw e (simp append_assoc) in
      sym (drop-drop 8 at f) ∙ ap (drop 8) parts ∙ drop_two c.type (length c.body) (c.body ++ (replicate (length c.body % 2) 0 ++ z))

  pub end_at_lem : end_at f at ≡ at + 8 + length c.body
  end_at_lem = rw size-at

  pub next-at : next_at f at ≡ at + sized (length c.body)
  unfolding sized
  next-at = rw size-at (omega arith)

  pub next-drop : drop (next_at f at) f ≡ z
  next-drop = rw next-at (sym (drop-drop (sized (length c.body)) at f) ∙ ap (drop (sized (length c.body))) e ∙ first_rest c z)

  pad_at : drop (end_at f at) f ≡ replicate (length c.body % 2) 0 ++ z
  pad_at =
      rw end_at_lem (sym (drop-drop (length c.body) (at + 8) f) ∙ ap (drop (length c.body)) body_at
      ∙ drop_at c.body (replicate (length c.body % 2) 0 ++ z) (length c.body) refl)

  pad_zero : length c.body % 2 ≡ 1 → get_or f (end_at f at) 0 ≡ 0
  pad_zero odd =
      let first : get_or (drop (end_at f at) f) 0 0 ≡ get_or f (end_at f at + 0) 0 = get_or-drop (end_at f at) f 0 0 in
      let there : get_or (drop (end_at f at) f) 0 0 ≡ 0 = rw (pad_at, odd) in
      sym (rw (add-zero (end_at f at)) at first) ∙ there

  -- its padding byte, in a parent that ends behind it
  pub padded-at : (end : ℕ) → next_at f at ≤ end → padded f end at ≡ true
  unfolding padded
  padded-at end h =
      pad_holds (size_at f at % 2) (end_at f at) end (get_or f (end_at f at) 0) (omega arith) h (λ q. pad_zero (rw size-at at q))

-- 41 to 44 of a chunk that is right
module _ (f : List ℕ) (p : Place) (d end at : ℕ) (room : next_at f at ≤ end) (pad : padded f end at ≡ true) (holds : may_hold_of p (kind_at f at) ≡ true) where
  fits_by : (four : is_plain (kind_at f at) ≡ false → 4 ≤ size_at f at) → true ≡ fits f end at
  fits_by four = go (is_plain (kind_at f at)) refl
    where
      go : (b : Bool) → is_plain (kind_at f at) ≡ b → true ≡ fits f end at
      go true q = fits_plain f end at (size_at f at) refl (omega arith) (omega arith) q
      go false q =
          let w : leb 4 (size_at f at) ≡ true = le-leb 4 (size_at f at) (four q) in
          sym w ∙ fits-four f end at (size_at f at) refl (omega arith) (omega arith) q

  pub no_fault : (is_plain (kind_at f at) ≡ false → 4 ≤ size_at f at) → (nests (kind_at f at) ≡ true → d ≤ 16) → member_fault_of f p d end at ≡ accept
  no_fault four deep = sym (fault-none f p d end at (sym (fits_by four)) (shallow (nests (kind_at f at)) deep) holds pad)
    where
      shallow : (b : Bool) → (b ≡ true → d ≤ 16) → b && ltb 16 d ≡ false
      shallow true h = le-ltb 16 d (h refl)
      shallow false h = refl

-- the kind that a FORM, group or PROP is read as
pub kind_of_code : (k : Kind) → is_plain k ≡ false → kind_of (code_of k) ≡ k
unfolding kind_of
kind_of_code Form e = refl
kind_of_code Lst e = refl
kind_of_code Cat e = refl
kind_of_code Prop e = refl
kind_of_code Plain e = let z : ◌≡◌ {A = ℕ} 0 1 = cc in absurd (omega arith)

pub code_small : (k : Kind) → code_of k < W
code_small Form = omega arith
code_small Lst = omega arith
code_small Cat = omega arith
code_small Prop = omega arith
code_small Plain = omega arith

-- what a FORM, group or PROP shows: its own row, then its members
holder-shows : (k : Kind) (f : List ℕ) (d at t m : ℕ) (I : Place → ℕ → ℕ → List Event) → is_plain k ≡ false → rd32 (drop (at + 8) f) ≡ t → size_at f at ≡ m
    → chunk_by accept k f d at I ≡ shows (own_row k t at m d) ++ I (within k) (end_at f at) (at + 12)
unfolding shows
holder-shows Form f d at t m I q a b = rw (a, b)
holder-shows Lst f d at t m I q a b = refl
holder-shows Cat f d at t m I q a b = refl
holder-shows Prop f d at t m I q a b = refl
holder-shows Plain f d at t m I q a b = let z : ◌≡◌ {A = ℕ} 0 1 = cc in absurd (omega arith)

-- a right chunk at an offset, of kind k: it has no fault
module _ (f z : List ℕ) (c : Chunk) (at : ℕ) (e : drop at f ≡ chunk_bytes c ++ z) (l : at ≤ length f) (small : length f < W) (typed : c.type < W)
    (k : Kind) (kind : kind_of c.type ≡ k) (p : Place) (holds : may_hold_of p k ≡ true) where
  pub kind_at_lem : kind_at f at ≡ k
  kind_at_lem = ap kind_of (type_at f z c at e l small typed) ∙ kind

  pub chunk_right : (d end : ℕ) → next_at f at ≤ end → (is_plain k ≡ false → 4 ≤ length c.body) → (nests k ≡ true → d ≤ 16)
      → chunk f p d end at ≡ chunk_by accept k f d at (λ q e a. members f q (d + 1) e a)
  unfolding chunk
  chunk_right d end room four deep =
      let m = size-at f z c at e l small typed in
      let none = no_fault f p d end at room (padded-at f z c at e l small typed end room) (rw kind_at_lem holds)
      (λ q. rw m (four (sym (ap is_plain kind_at_lem) ∙ q))) (λ q. deep (sym (ap nests kind_at_lem) ∙ q)) in
      rw (none, kind_at_lem)

-- the members of a FORM, group or PROP, and its type, as they stand in its data
module _ (f y : List ℕ) (at t : ℕ) (b : List ℕ) (e : drop (at + 8) f ≡ (be32 t ++ b) ++ y) where
  pub inner_drop : drop (at + 12) f ≡ b ++ y
  inner_drop =
      let sum : at + 8 + 4 ≡ at + 12 = omega arith in
      rw (← sum) (sym (drop-drop 4 (at + 8) f) ∙ ap (drop 4) (e ∙ append_assoc (be32 t) b y) ∙ drop-be32 t (b ++ y))

  pub inner_type : t < W → rd32 (drop (at + 8) f) ≡ t
  inner_type h = ap rd32 (e ∙ append_assoc (be32 t) b y) ∙ rd32-be32 t (b ++ y) h

-- a chunk and what stands behind it
module _ (f y : List ℕ) (c : Chunk) (rest : List ℕ) (at : ℕ) (e : drop at f ≡ (chunk_bytes c ++ rest) ++ y) (l : at ≤ length f) (small : length f < W)
    (typed : c.type < W) (k : Kind) (kind : kind_of c.type ≡ k) (p : Place) (holds : may_hold_of p k ≡ true) where
  abbrev behind_it : List ℕ
  behind_it = rest ++ y

  parted : drop at f ≡ chunk_bytes c ++ behind_it
  parted = e ∙ append_assoc (chunk_bytes c) rest y

  pub end_is : next_at f at + length rest ≡ at + length (chunk_bytes c ++ rest)
  unfolding size
  end_is = rw (next-at f behind_it c at parted l small typed, length-append (chunk_bytes c) rest, length-chunk_bytes c) (omega arith)

  pub end_in : at + length (chunk_bytes c ++ rest) ≤ length f
  end_in =
      let whole = filled f behind_it c at parted l small typed in
      let two = length-append rest y in
      let n = next-at f behind_it c at parted l small typed in
      omega (arith, whole, two, n, end_is)

  pub rest-drop : drop (next_at f at) f ≡ rest ++ y
  rest-drop = next-drop f behind_it c at parted l small typed

  -- the events of this chunk, if it is right, and of the rest
  pub step : (d : ℕ) → (is_plain k ≡ false → 4 ≤ length c.body) → (nests k ≡ true → d ≤ 16)
      → members f p d (at + length (chunk_bytes c ++ rest)) at
      ≡ chunk_by accept k f d at (λ q e a. members f q (d + 1) e a) ++ members f (behind p k) d (next_at f at + length rest) (next_at f at)
  unfolding sized
  step d four deep =
      let n = next-at f behind_it c at parted l small typed in
      let q = end_is in
      let room : next_at f at ≤ at + length (chunk_bytes c ++ rest) = omega (arith, q) in
      let on = members_on f p d (at + length (chunk_bytes c ++ rest)) at (omega (arith, n, q)) end_in in
      let right = chunk_right f behind_it c at parted l small typed k kind p holds d (at + length (chunk_bytes c ++ rest)) room four deep in
      let named = kind_at_lem f behind_it c at parted l small typed k kind p holds in
      on ∙ rw (right, named, q)

-- the bytes of a FORM, group or PROP of kind k, type t and members b
abbrev pub chunk_for : Kind → ℕ → List ℕ → Chunk
chunk_for k t b = chunk_of (code_of k) (be32 t ++ b)

pub length-data : (t : ℕ) (b : List ℕ) → length (be32 t ++ b) ≡ 4 + length b
length-data t b = length-append (be32 t) b ∙ rw (length-be32 t)

-- a FORM, group or PROP shows its own row and then those of its members, if these are read as they should be
module _ (f z : List ℕ) (k : Kind) (t at d : ℕ) (b : List ℕ) (e : drop at f ≡ chunk_bytes (chunk_for k t b) ++ z) (l : at ≤ length f) (small : length f < W)
    (holding : is_plain k ≡ false) (typed : t < W) where
  pub holder_events : (rows : List Row)
      → ((w : List ℕ) → drop (at + 12) f ≡ b ++ w → at + 12 ≤ length f → members f (within k) (d + 1) (at + 12 + length b) (at + 12) ≡ shows rows)
      → chunk_by accept k f d at (λ q e a. members f q (d + 1) e a) ≡ shows (own_row k t at (4 + length b) d ++ rows)
  unfolding sized
  holder_events rows read =
      let c : Chunk = chunk_for k t b in
      let four = length-data t b in
      let pad : List ℕ = replicate (length c.body % 2) 0 ++ z in
      let data-at : drop (at + 8) f ≡ (be32 t ++ b) ++ pad = body_at f z c at e l small (code_small k) in
      let whole = filled f z c at e l small (code_small k) in
      let size : size_at f at ≡ 4 + length b = size-at f z c at e l small (code_small k) ∙ four in
      let close : end_at f at ≡ at + 12 + length b = end_at_lem f z c at e l small (code_small k) ∙ rw four (omega arith) in
      let own = holder-shows k f d at t (4 + length b) (λ q e a. members f q (d + 1) e a) holding (inner_type f pad at t b data-at typed) size in
      let inner = read pad (inner_drop f pad at t b data-at) (omega (arith, whole, four)) in
      own ∙ rw (close, inner) (sym (shows-append (own_row k t at (4 + length b) d) rows))

pub tree_members : (ms : Chunks) (f y : List ℕ) (p : Place) (n d at : ℕ) → drop at f ≡ bytes ms ++ y → at ≤ length f → length f < W
    → Placed p ms → Within n ms → (1 ≤ n → d + n ≤ 17)
    → members f p d (at + length (bytes ms)) at ≡ shows (rows_from at d ms)
unfolding bytes Placed Within rows_from shows
tree_members none f y p n d at e l small ok levels inv = members_end f p d (at + 0) at (omega arith)
tree_members (plain t b rest) f y p n d at e l small ok levels inv =
    let c : Chunk = chunk_of t b in
    let nx = next-at f (bytes rest ++ y) c at (e ∙ append_assoc (chunk_bytes c) (bytes rest) y) l small ok.0 in
    let first = step f y c (bytes rest) at e l small ok.0 Plain ok.1 p ok.2 d (λ q. absurd (two q)) (λ q. absurd (one q)) in
    let inside = end_in f y c (bytes rest) at e l small ok.0 Plain ok.1 p ok.2 in
    let sum = end_is f y c (bytes rest) at e l small ok.0 Plain ok.1 p ok.2 in
    let ih = tree_members rest f y (behind p Plain) n d (next_at f at) (rest-drop f y c (bytes rest) at e l small ok.0 Plain ok.1 p ok.2)
    (omega (arith, sum, inside)) small ok.3 levels inv in
    first ∙ ih ∙ rw nx
  where
    one : ◌≡◌ {A = Bool} false true → ⊥
    one q = let z : ◌≡◌ {A = ℕ} 0 1 = cc in omega arith

    two : ◌≡◌ {A = Bool} true false → ⊥
    two q = let z : ◌≡◌ {A = ℕ} 0 1 = cc in omega arith
tree_members (holder k t ms rest) f y p n d at e l small ok levels inv =
    let b : List ℕ = bytes ms in
    let c : Chunk = chunk_for k t b in
    let four = length-data t b in
    let kind = kind_of_code k ok.1 in
    let code = code_small k in
    let nx = next-at f (bytes rest ++ y) c at (e ∙ append_assoc (chunk_bytes c) (bytes rest) y) l small code in
    let first = step f y c (bytes rest) at e l small code k kind p ok.2 d (λ q. omega (arith, four))
    (λ q. let one = levels.0 (nests_named k q) in omega (arith, inv one)) in
    let inside = end_in f y c (bytes rest) at e l small code k kind p ok.2 in
    let sum = end_is f y c (bytes rest) at e l small code k kind p ok.2 in
    let parted = e ∙ append_assoc (chunk_bytes c) (bytes rest) y in
    let own = holder_events f (bytes rest ++ y) k t at d b parted l small ok.1 ok.0 (rows_from (at + 12) (d + 1) ms)
    (λ w q h. tree_members ms f w (within k) (n - 1) (d + 1) (at + 12) q h small ok.3 levels.1 (λ two. omega (arith, inv (omega arith)))) in
    let ih = tree_members rest f y (behind p k) n d (next_at f at) (rest-drop f y c (bytes rest) at e l small code k kind p ok.2)
    (omega (arith, sum, inside)) small ok.4 levels.2 inv in
    let own-rows : List Row = own_row k t at (4 + length b) d in
    first ∙ rw (own, ih, nx, four)
    (sym (shows-append (own-rows ++ rows_from (at + 12) (d + 1) ms) (rows_from (at + sized (4 + length b)) d rest))
    ∙ ap shows (append_assoc own-rows (rows_from (at + 12) (d + 1) ms) (rows_from (at + sized (4 + length b)) d rest)))
