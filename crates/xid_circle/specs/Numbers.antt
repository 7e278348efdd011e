-- What a number is the number of. Each is ℕ itself, so nothing has to be turned into it.
use Rattle.std.specs.Prelude.{ℕ}

-- a transaction's id, of 32 bits
abbrev pub Id : Type 0
Id = ℕ

-- a page's number, counted from 0
abbrev pub PageNo : Type 0
PageNo = ℕ

-- a slot's on its page, counted from 1
abbrev pub SlotNo : Type 0
SlotNo = ℕ

-- a session's, from 0 to 63
abbrev pub SessionNo : Type 0
SessionNo = ℕ

-- an index's: 0 by key, c + 1 by column c
abbrev pub IndexNo : Type 0
IndexNo = ℕ

-- a row's key, of 64 bits
abbrev pub Key : Type 0
Key = ℕ

-- how many of something
abbrev pub Count : Type 0
Count = ℕ
