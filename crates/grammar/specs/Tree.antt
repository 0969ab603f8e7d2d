-- The artists' group files as trees (02, P9): FORMs, groups, PROPs and plain chunks, their bytes, which of them 02's sentences allow, and the
-- list of their FORMs. Nothing here reads a file, and nothing is taken from the tables by which a file is read but the names of the kinds and their codes.
use Rattle.std.specs.Prelude.{ℕ, suc, ◌+◌, ◌-◌, ◌≤◌, ◌<◌, ◌≡◌, List, [], ◌∷◌, ◌++◌, ◌⊎◌, length}
use Rattle.blorb.specs.Bytes.{be32}
use Rattle.blorb.specs.Format.{chunk_of, sized, chunk_bytes}
use Rattle.blorb.specs.Sound.{W}
use Rattle.blorb.specs.Tags.{FORM}
use Rattle.members.specs.declared.Kind.{Kind}
use Rattle.members.specs.declared.Kind.TheVariants.{Form, List as Lst, Cat, Prop, Plain}
use Rattle.members.specs.Kinds.{LIST, CAT, PROP}
use Rattle.groups.specs.Files.{Row}

-- A row of chunks, one behind the other: none; a plain chunk with its type and data, and the chunks behind it; a FORM, group or PROP with its
-- four type bytes and its members, and the chunks behind it.
pub data Chunks : Type 0 where
  none : Chunks
  plain : (type : ℕ) → (body : List ℕ) → (rest : Chunks) → Chunks
  holder : Kind → (type : ℕ) → (members rest : Chunks) → Chunks

-- the four bytes that a FORM, group or PROP begins with
abbrev pub code_of : Kind → ℕ
code_of Form = FORM
code_of Lst = LIST
code_of Cat = CAT
code_of Prop = PROP
code_of Plain = 0

-- the bytes of a row of chunks: header, data, and a zero byte where the data is odd (01, rule 2)
unfoldable pub bytes : Chunks → List ℕ
bytes none = []
bytes (plain t d rest) = chunk_bytes (chunk_of t d) ++ bytes rest
bytes (holder k t members rest) = chunk_bytes (chunk_of (code_of k) (be32 t ++ bytes members)) ++ bytes rest

-- "'LIST' and 'CAT ' groups"
abbrev pub Group : Kind → Type 0
Group k = (k ≡ Lst) ⊎ (k ≡ Cat)

abbrev pub FormOrGroup : Kind → Type 0
FormOrGroup k = (k ≡ Form) ⊎ Group k

-- of each chunk of a row by itself, not of what it holds
unfoldable pub Each : (Kind → Type 0) → Chunks → Type 0
Each P none = Unit {0}
Each P (plain t d rest) = P Plain × Each P rest
Each P (holder k t members rest) = P k × Each P rest

-- PROPs, then FORMs and groups only
unfoldable pub PropsFirst : Chunks → Type 0
PropsFirst none = Unit {0}
PropsFirst (plain t d rest) = ⊥
PropsFirst (holder k t members rest) = ((k ≡ Prop) × PropsFirst rest) ⊎ (FormOrGroup k × Each FormOrGroup rest)

-- "A FORM holds chunks, FORMs and groups; beside FORMs a group's members may be groups again, and a 'LIST' may begin with 'PROP's .. a PROP holds plain
-- chunks only": the members that a chunk of kind k may have. A PROP "stands nowhere else": no other line names it. A plain chunk has data, not members.
abbrev pub Holds : Kind → Chunks → Type 0
Holds Form members = Each (λ k. (k ≡ Plain) ⊎ FormOrGroup k) members
Holds Cat members = Each FormOrGroup members
Holds Lst members = PropsFirst members
Holds Prop members = Each (λ k. k ≡ Plain) members
Holds Plain members = ⊥

-- the type of a plain chunk: a number of four bytes that is none of the four
abbrev pub PlainType : ℕ → Type 0
PlainType t = (t < W) × (t ≡ FORM → ⊥) × (t ≡ LIST → ⊥) × (t ≡ CAT → ⊥) × (t ≡ PROP → ⊥)

-- every FORM, group and PROP among these chunks and in them holds what it may
unfoldable pub Allowed : Chunks → Type 0
Allowed none = Unit {0}
Allowed (plain t d rest) = PlainType t × Allowed rest
Allowed (holder k t members rest) = (t < W) × Holds k members × Allowed members × Allowed rest

-- "a level more in each FORM, group or PROP": no FORM or group stands deeper than n levels from here on. A PROP is a level for what it holds, and may itself
-- stand below the last: 42 names "a FORM or group".
unfoldable pub Within : ℕ → Chunks → Type 0
Within n none = Unit {0}
Within n (plain t d rest) = Within n rest
Within n (holder k t members rest) = (FormOrGroup k → 1 ≤ n) × Within (n - 1) members × Within n rest

-- "four 32-bit numbers a row: form type, start, length field, depth": of a FORM at this start and depth; no other kind has a row
abbrev pub own_row : Kind → ℕ → ℕ → ℕ → ℕ → List Row
own_row Form t at m d = record { type = t; start = at; size = m; depth = d } ∷ []
own_row Lst t at m d = []
own_row Cat t at m d = []
own_row Prop t at m d = []
own_row Plain t at m d = []

-- the FORMs of a row of chunks from offset at on, at this depth: each FORM once, before those that it holds
unfoldable pub rows_from : ℕ → ℕ → Chunks → List Row
rows_from at d none = []
rows_from at d (plain t b rest) = rows_from (at + sized (length b)) d rest
rows_from at d (holder k t members rest) =
    own_row k t at (4 + length (bytes members)) d
    ++ (rows_from (at + 12) (d + 1) members ++ rows_from (at + sized (4 + length (bytes members))) d rest)

-- rows by rising start, from lo on: none of them twice
unfoldable pub Rise : ℕ → List Row → Type 0
Rise lo [] = Unit {0}
Rise lo (r ∷ rs) = (lo ≤ r.start) × Rise (suc r.start) rs

-- "The file is one group or FORM, at depth 1 .. at most 16 levels deep": f is the bytes of such a tree
pub record FileOf (f : List ℕ) : Type 0 where
  pub kind : Kind
  pub type : ℕ
  pub members : Chunks
  pub top : FormOrGroup kind
  pub allowed : Allowed (holder kind type members none)
  pub levels : Within 16 (holder kind type members none)
  pub whole : bytes (holder kind type members none) ≡ f
