-- Telling: words to which numbers are given, the elements of a list, and whole texts.
--   TakesText h f s run run' r   the whole text is JSON, and what f reads of it is held by h
--   TellsTo g s v r              a word at v, to which g gives a number
--   effect_named t, type_told t  the number of the effect or of the type that t names, if it names one
--   each_in f t                   each element of a list, read by f
use Rattle.std.specs.Prelude.{◌≡◌, List, ℕ, ◌≤◌, length, Option, Some, None}
use Rattle.chars.specs.Base.{pick}
use Rattle.text.specs.Json.{Json, null, bool, number, string, list, object, depth, levels, a_value, Reads}
use Rattle.text.specs.Verdicts.{Text}
use Rattle.syntax.specs.Forms.{Reading, wrong}
use Rattle.syntax.specs.Words.{allow_word, deny_word}
use Rattle.syntax.specs.Members.{is_word, each}
use Rattle.parts.specs.Holding.{Laid}
use Rattle.parts.specs.Requests.{type_named, number_of_type}
use Rattle.parts.specs.declared.words.ValueType.{ValueType}
use Rattle.objects.specs.declared.members.Word.{Word}

-- ---- whole texts

pub record TakenText {A : Type 0} (h : A → List ℕ) (f : Json → Reading A) (s run run' : List ℕ) (p : ℕ) : Type 0 where
  pub text : Text levels s
  pub laid : Laid h run run' 0 (f text.tree) p

abbrev pub TakesText : {A : Type 0} → (A → List ℕ) → (Json → Reading A) → List ℕ → List ℕ → List ℕ → Option ℕ → Type 0
TakesText h f s run run' (Some p) = TakenText h f s run run' p
TakesText h f s run run' None = length run' ≡ length run

-- ---- words

pub record Told (g : Json → Option ℕ) (s : List ℕ) (v k e : ℕ) : Type 0 where
  pub tree : Json
  pub reads : Reads s (a_value tree) v e
  pub shallow : depth tree ≤ 0
  pub is : Some k ≡ g tree

abbrev pub TellsTo : (Json → Option ℕ) → List ℕ → ℕ → Option Word → Type 0
TellsTo g s v (Some r) = Told g s v r.number r.end
TellsTo g s v None = Unit {0}

abbrev pub effect_named : Json → Option ℕ
effect_named t = pick (is_word allow_word t) (Some 1) (pick (is_word deny_word t) (Some 2) None)

abbrev pub number_told : Option ValueType → Option ℕ
number_told (Some k) = Some (number_of_type k)
number_told None = None

abbrev pub type_told : Json → Option ℕ
type_told t = number_told (type_named t)

-- ---- elements

abbrev pub each_in : {A : Type 0} → (Json → Reading A) → Json → Reading (List A)
each_in f null = wrong
each_in f (bool b) = wrong
each_in f (number w) = wrong
each_in f (string w) = wrong
each_in f (list ts) = each f ts
each_in f (object ms) = wrong
