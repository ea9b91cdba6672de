-- What a line buffer holds.
use Rattle.std.specs.Prelude.{◌≡◌, ℕ, List, take}
use Rattle.lines.specs.declared.line.LineBuffer.{LineBuffer}

abbrev pub line_bytes : LineBuffer → List ℕ
line_bytes b = take b.count b.bytes

-- the line so far is this one: its first 513 bytes are kept
abbrev pub Keeps : LineBuffer → List ℕ → Type 0
Keeps b line = line_bytes b ≡ take 513 line
