-- What the bytes of a table file say. Byte 0 is N and byte 1 is P; then come three entries of the contents, for the
-- steps (0), the marks (1) and the starts (2), each an offset and a length of two bytes, the high one first.
use Rattle.std.specs.Prelude.{ℕ, ◌+◌, ◌*◌, List, Some, None, Option, ◌==◌, slice_index}
use Rattle.std.specs.List.{between}
use Rattle.systems.specs.Model.{Model}
use Rattle.systems.specs.Numbers.{step_from, colour_from}
use Rattle.systems.specs.declared.kinds.Step.{Step}
use Rattle.systems.specs.declared.kinds.Step.TheVariants.{Absent}
use Rattle.systems.specs.declared.kinds.Colour.{Colour}
use Rattle.systems.specs.declared.kinds.Colour.TheVariants.{Undecided}

abbrev pub byte : List ℕ → ℕ → ℕ
byte bytes at = slice_index bytes at

abbrev pub word : List ℕ → ℕ → ℕ
word bytes at = byte bytes at * 256 + byte bytes (at + 1)

abbrev pub states_of : List ℕ → ℕ
states_of bytes = byte bytes 0

abbrev pub marks_of : List ℕ → ℕ
marks_of bytes = byte bytes 1

abbrev pub offset : List ℕ → ℕ → ℕ
offset bytes entry = word bytes (2 + 4 * entry)

abbrev pub size : List ℕ → ℕ → ℕ
size bytes entry = word bytes (4 + 4 * entry)

-- the body of an entry: so many bytes from its offset on
abbrev pub body : List ℕ → (entry len : ℕ) → List ℕ
body bytes entry len = between (offset bytes entry) (offset bytes entry + len) bytes

-- the steps, N rows of N; the marks, N rows of P; and the starts
abbrev pub steps_in : List ℕ → List ℕ
steps_in bytes = body bytes 0 (states_of bytes * states_of bytes)

abbrev pub marks_in : List ℕ → List ℕ
marks_in bytes = body bytes 1 (states_of bytes * marks_of bytes)

abbrev pub starts_in : List ℕ → List ℕ
starts_in bytes = body bytes 2 (states_of bytes)

-- the byte at a row and a column of a body
abbrev pub cell : List ℕ → (width row column : ℕ) → ℕ
cell body width row column = byte body (row * width + column)

abbrev pub or_else : {A : Type 0} → A → Option A → A
or_else a None = a
or_else a (Some b) = b

-- the step that a byte stands for, absent where it stands for none
abbrev pub step_of : ℕ → Step
step_of b = or_else Absent (step_from b)

-- the value that a byte stands for, unknown where it stands for none
abbrev pub value_of : ℕ → Colour
value_of b = or_else Undecided (colour_from b)

-- the system of n states and p marks with these bodies
abbrev pub body_model : (n p : ℕ) → (steps marks starts : List ℕ) → Model
body_model n p steps marks starts = record {
  states = n;
  marks = p;
  step = λ s t. step_of (cell steps n s t);
  mark = λ s k. value_of (cell marks p s k);
  start = λ s. (byte starts s == 1);
}

-- the system that the file says
abbrev pub file_model : List ℕ → Model
file_model bytes = body_model (states_of bytes) (marks_of bytes) (steps_in bytes) (marks_in bytes) (starts_in bytes)
