-- Plain: characters that every string of the written form has as themselves.
--   Plain y                 written as itself, and escaped in no entry
--   PlainPut ys n out at    the first n of ys are such, and stand at the beginning of out, which is else as before
--   AddsPlain ys n s t      the first n of ys are such, and were added
-- Pinned by: Laws/Plain (what the tests let pass), Laws/Each (the pieces of such characters are themselves).
use Rattle.std.specs.Prelude.{◌≡◌, Bool, false, List, [], ◌∷◌, ◌++◌, ℕ, ◌≤◌, length, take, drop}
use Rattle.chars.specs.Written.{written}
use Rattle.writing.specs.Showing.{Adds}
use Rattle.writing.specs.Valid.{Each}
use Rattle.writing.specs.WrittenForm.{is_escaped}
use Rattle.writing.specs.declared.sink.Sink.{Sink}

pub record Plain (y : ℕ) : Type 0 where
  pub small : y ≤ 126
  pub itself : written y ≡ y ∷ []
  pub bare : (w : Bool) → is_escaped w y ≡ false

abbrev pub AllPlain : List ℕ → Type 0
AllPlain ys = Each ℕ Plain ys

pub record PlainPut (ys : List ℕ) (n : ℕ) (out after : List ℕ) : Type 0 where
  pub inside : n ≤ length ys
  pub room : n ≤ length out
  pub plain : AllPlain (take n ys)
  pub is : after ≡ take n ys ++ drop n out

pub record AddsPlain (ys : List ℕ) (n : ℕ) (s t : Sink) : Type 0 where
  pub inside : n ≤ length ys
  pub plain : AllPlain (take n ys)
  pub adds : Adds (take n ys) s t
