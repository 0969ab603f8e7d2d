-- A file's layout in numbers and parts, for the contracts inside: no public contract cites it. blorb/proofs/Parts ties it to Format.
use Rattle.std.specs.Prelude.{ℕ, ◌+◌, ◌*◌, ◌%◌, List, ◌++◌}
use Rattle.blorb.specs.Bytes.{be32}
use Rattle.blorb.specs.Tags.{FORM, IFRS, RIdx}

-- Format's `sized`; this one unfolds by itself
abbrev pub size_of : ℕ → ℕ
size_of n = 8 + (n + n % 2)

-- the 24 bytes before the entries, of a file with n entries and chunks of t bytes behind the index
unfoldable pub heading : ℕ → ℕ → List ℕ
heading n t = be32 FORM ++ (be32 (16 + 12 * n + t) ++ (be32 IFRS ++ (be32 RIdx ++ (be32 (4 + 12 * n) ++ be32 n))))
