-- Bytes of ASCII by their names. Classes of bytes are those of the standard library (`is_ascii_digit` and its kin).
use Rattle.std.specs.Prelude.{ℕ}

-- the byte 32; no other byte is a space
abbrev pub space : ℕ
space = 32

-- `#`
abbrev pub hash : ℕ
hash = 35

-- `$`
abbrev pub dollar : ℕ
dollar = 36

-- `,`
abbrev pub comma : ℕ
comma = 44

-- `-`
abbrev pub hyphen : ℕ
hyphen = 45

-- `.`
abbrev pub dot : ℕ
dot = 46

-- `/`
abbrev pub slash : ℕ
slash = 47

-- `@`
abbrev pub at_sign : ℕ
at_sign = 64

-- `_`
abbrev pub underscore : ℕ
underscore = 95

-- `|`
abbrev pub bar : ℕ
bar = 124

-- `~`
abbrev pub tilde : ℕ
tilde = 126

-- the control byte above all printed ones
abbrev pub delete : ℕ
delete = 127
