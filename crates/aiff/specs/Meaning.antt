-- What 02's P11 says in words, without the way in which the definitions compute it. That they mean this is proved in proofs/RateLaws and proofs/Meaning.
use Rattle.std.specs.Prelude.{ℕ, ◌+◌, ◌*◌, ◌^◌, ◌≤◌, ◌<◌, ◌≡◌, List, ◌++◌, Bool, ◌&&◌, length, get_or, drop, eqb}
use Rattle.blorb.specs.Bytes.{be32, rd32}
use Rattle.blorb.specs.Tags.{FORM, AIFF}
use Rattle.blorb.specs.Format.{Chunk, chunk_of, chunk_bytes, chunks_bytes}
use Rattle.blorb.specs.Verdict.{no_chunk}
use Rattle.aiff.specs.Rate.{rd16, sign_in, exponent_in, significand_in}

-- The rate is exactly r, "a whole number from 1 to 4,294,967,295": significand × 2^field = r × 2^(16,383 + 63), so r is "the significand times 2 to the
-- power (that exponent less 63)", the field being that exponent and the bias; and it is not negative.
pub record Exactly (sign field significand r : ℕ) : Type 0 where
  pub clear : sign ≡ 0
  pub least : 1 ≤ r
  pub most : r ≤ 4294967295
  pub equal : significand * 2 ^ field ≡ r * 2 ^ (16383 + 63)

-- what the 18 bytes of a 'COMM' chunk say: the fields, the rate exactly, and "the whole seconds, rounded down"
pub record Says (d : List ℕ) (channels frames sampleSize rate seconds : ℕ) : Type 0 where
  pub channels_are : rd16 d ≡ channels
  pub frames_are : rd32 (drop 2 d) ≡ frames
  pub sample_size_is : rd16 (drop 6 d) ≡ sampleSize
  pub rate_is : Exactly (sign_in (drop 8 d)) (exponent_in (drop 8 d)) (significand_in (drop 8 d)) rate
  pub not_over : seconds * rate ≤ frames
  pub not_under : frames < (seconds + 1) * rate

-- one 'COMM', and of 18 bytes
abbrev pub is_single : List Chunk → Bool
is_single cs = eqb (length cs) 1 && eqb (length (get_or cs 0 no_chunk).body) 18

-- "a single 'FORM' of type 'AIFF' filled by chunks of rule 2": a chunk of rule 2 itself, its data the type and these chunks
abbrev pub aiff_bytes : List Chunk → List ℕ
aiff_bytes cs = chunk_bytes (chunk_of FORM (be32 AIFF ++ chunks_bytes cs))
