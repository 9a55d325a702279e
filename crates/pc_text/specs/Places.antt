-- Lines and columns, both counted from 1.
use Rattle.std.specs.Prelude.{ℕ, ◌+◌, Bool, not, nat_eq, if◌then◌else◌, [], ◌∷◌, take, reverse, count_by}
use Rattle.std.specs.List.{prefix_len}
use Rattle.pc_text.specs.declared.place.Place.{Place}
use Rattle.pc_text.specs.Bytes.{Bytes}

-- the byte that ends a line
abbrev pub is_line_feed : ℕ → Bool
is_line_feed c = nat_eq c 10

-- how many bytes stand behind the last line feed of a text
abbrev pub last_line : Bytes → ℕ
last_line w = prefix_len (λ c. not (is_line_feed c)) (reverse w)

-- where a byte stands that has this text before it
abbrev pub place_behind : Bytes → Place
place_behind w = record { line = count_by is_line_feed w + 1; column = last_line w + 1 }

-- where the byte at an offset of a text stands
unfoldable pub place_of : Bytes → ℕ → Place
place_of b o = place_behind (take o b)

-- the place behind one more byte
abbrev pub step : Place → ℕ → Place
step p c = if is_line_feed c then record { line = p.line + 1; column = 1 } else record { line = p.line; column = p.column + 1 }

-- the place behind a text that begins at a place, a byte at a time
abbrev pub behind : Place → Bytes → Place
behind p [] = p
behind p (c ∷ w) = behind (step p c) w
