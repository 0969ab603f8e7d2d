-- The archive's version as one number, so that a program compiled for another one can tell: the calls of 2.0.0 take a profile (02, P12).
use Rattle.std.specs.Prelude.{ℕ, ◌+◌, ◌*◌}

abbrev pub version_number : (major minor patch : ℕ) → ℕ
version_number major minor patch = major * 1000000 + minor * 1000 + patch
