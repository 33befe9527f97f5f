-- The lines of a text and the words of a line: what stands between separators.
use Rattle.std.specs.Prelude.{ℕ, List, ◌==◌}
use Rattle.std.specs.List.{slice_split}

-- All parts, empty ones too: one more than there are separators.
abbrev pub parts_of : ℕ → List ℕ → List (List ℕ)
parts_of separator bytes = slice_split (λ b. b == separator) bytes

-- A line ends at a byte 10, or where the text ends.
abbrev pub lines_of : List ℕ → List (List ℕ)
lines_of text = parts_of 10 text

-- Words are parted by one space, byte 32.
abbrev pub words_of : List ℕ → List (List ℕ)
words_of line = parts_of 32 line
