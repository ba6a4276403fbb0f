-- Where the parts of values, context entries, rows, statements and requests lie in a run.
use mathlib.Core.Path.{◌≡◌, refl, sym, ap, ◌∙◌, subst}
use mathlib.Core.List.{List, ◌++◌, map}
use Prim.Native.Nat.{ℕ, ◌+◌, ◌≤◌, ◌<◌}
use native.Mathlib.Omega.{arith}
use lib.ListN.{length, get_or, length-append}
use Rattle.syntax.specs.Policy.{Value, text, number, Row, Context, Statement, Request}
use Rattle.held.specs.Held.{held_text, held_value, held_list, held_row, held_statement, held_context, held_request}
use Rattle.held.specs.Held.{held_number, mark, effect_number, operator_number, type_number}
use Rattle.held.specs.Lying.{Lies, Lying}
use Rattle.held.specs.Places.{Operating, Labelled, held_labelled}
use Rattle.held.specs.declared.runs.Seen.{Seen}
use Rattle.held.proofs.Laws.Runs.{lies_front, lies_back, lies_first, lies_inside, lies_short}
use Rattle.held.proofs.Laws.RunsStatement.{texts_list, ListPassed}
use Rattle.held.proofs.Laws.Places.{label_lies, more_lies}

-- ---- a value: a number is told from a text by its mark

pub record IsText (x : Value) : Type 0 where
  pub characters : List ℕ
  pub is : x ≡ text characters

pub record IsNumber (x : Value) : Type 0 where
  pub value : ℕ
  pub is : x ≡ number value

module _ {run : List ℕ} {p : ℕ} where
  pub is_text_lem : (x : Value) → Lies run p (held_value x) → get_or run p 0 < mark → IsText x
  is_text_lem (text cs) l h = record { characters = cs; is = refl }
  is_text_lem (number n) l h = absurd (omega (arith, lies_first l))

  pub is_number_lem : (x : Value) → Lies run p (held_value x) → mark ≤ get_or run p 0 → IsNumber x
  is_number_lem (text cs) l h = absurd (omega (arith, lies_first l, lies_short l))
  is_number_lem (number n) l h = record { value = n; is = refl }

  pub text_lying : Lying held_value run p → get_or run p 0 < mark → Lying held_text run p
  text_lying y h =
      let t = is_text_lem y.thing y.lies h in
      record {
        thing = t.characters;
        lies = subst (λ (x : Value). Lies run p (held_value x)) t.is y.lies;
      }

  pub number_lying : Lying held_value run p → mark ≤ get_or run p 0 → Lying held_number run p
  number_lying y h =
      let t = is_number_lem y.thing y.lies h in
      record {
        thing = t.value;
        lies = subst (λ (x : Value). Lies run p (held_value x)) t.is y.lies;
      }

-- ---- a context entry

abbrev context_labelled : Context → Labelled
context_labelled x = record { first = type_number x.value; label = x.key; more = held_value x.value }

-- what a call told of the place behind a label, and behind a value
abbrev pub BehindLabel : List ℕ → ℕ → ℕ → Type 0
BehindLabel run p v = (z : Labelled) → Lies run p (held_labelled z) → v ≡ p + 2 + length z.label

abbrev pub BehindValue : List ℕ → ℕ → ℕ → Type 0
BehindValue run v q = (z : Value) → Lies run v (held_value z) → q ≡ v + length (held_value z)

module _ {run : List ℕ} {p : ℕ} (x : Context) (l : Lies run p (held_context x)) where
  pub context_labelled_lem : Lies run p (held_labelled (context_labelled x))
  unfolding held_context
  context_labelled_lem = l

  pub key_lies : Lies run (p + 1) (held_text x.key)
  key_lies = label_lies (context_labelled x) context_labelled_lem

  module _ {v : ℕ} (far : BehindLabel run p v) where
    pub value_lies : Lies run v (held_value x.value)
    value_lies = more_lies (context_labelled x) context_labelled_lem v (far (context_labelled x) context_labelled_lem)

    pub context_passed : {q : ℕ} → BehindValue run v q → q ≡ p + length (held_context x)
    unfolding held_context
    context_passed further =
        omega (
          arith,
          far (context_labelled x) context_labelled_lem,
          further x.value value_lies,
          length-append x.key (held_value x.value),
        )

pub context_lying : {run : List ℕ} {p : ℕ} → Lying held_context run p → Lying held_labelled run p
context_lying y = record { thing = context_labelled y.thing; lies = context_labelled_lem y.thing y.lies }

pub key_lying : {run : List ℕ} {p : ℕ} → Lying held_context run p → Lying held_text run (p + 1)
key_lying y = record { thing = y.thing.key; lies = key_lies y.thing y.lies }

pub value_lying : {run : List ℕ} {p v : ℕ} → Lying held_context run p → BehindLabel run p v → Lying held_value run v
value_lying y far = record { thing = y.thing.value; lies = value_lies y.thing y.lies far }

-- ---- a row

abbrev row_labelled : Row → Labelled
row_labelled x =
    record { first = operator_number x.operator; label = x.key; more = held_list held_value x.entries }

module _ {run : List ℕ} {p : ℕ} (x : Row) (l : Lies run p (held_row x)) where
  row_labelled_lem : Lies run p (held_labelled (row_labelled x))
  unfolding held_row
  row_labelled_lem = l

  pub row_inside : p < length run
  row_inside = lies_inside row_labelled_lem

  pub row_operator : get_or run p 0 ≡ operator_number x.operator
  row_operator = lies_first row_labelled_lem

  pub row_key_lies : Lies run (p + 1) (held_text x.key)
  row_key_lies = label_lies (row_labelled x) row_labelled_lem

  pub entries_lie : {v : ℕ} → BehindLabel run p v → Lies run v (held_list held_value x.entries)
  entries_lie {v} far = more_lies (row_labelled x) row_labelled_lem v (far (row_labelled x) row_labelled_lem)

module _ {run : List ℕ} {p : ℕ} (y : Lying held_row run p) where
  pub row_lying : Lying held_labelled run p
  row_lying = record { thing = row_labelled y.thing; lies = row_labelled_lem y.thing y.lies }

  pub row_key_lying : Lying held_text run (p + 1)
  row_key_lying = record { thing = y.thing.key; lies = row_key_lies y.thing y.lies }

  pub row_operating : Operating (get_or run p 0)
  row_operating = record { operator = y.thing.operator; is = row_operator y.thing y.lies }

  pub entries_lying : {v : ℕ} → BehindLabel run p v → Lying (held_list held_value) run v
  entries_lying far = record { thing = y.thing.entries; lies = entries_lie y.thing y.lies far }

-- ---- a list of texts is one of values

pub texts_values : {run : List ℕ} {p : ℕ} (xs : List (List ℕ)) → Lies run p (held_list held_text xs)
    → Lies run p (held_list held_value (map text xs))
texts_values {run} {p} xs l = subst (Lies run p) (texts_list xs) l

-- behind the list lies what follows it
behind_texts :
    {run : List ℕ} {p : ℕ} {r : Seen} (xs : List (List ℕ)) (ys : List ℕ) → Lies run p (held_list held_text xs ++ ys)
    → ListPassed run p r → Lies run r.past ys
behind_texts {run} {p} {r} xs ys l s =
    let front = lies_front (held_list held_text xs) ys l in
    let far : r.past ≡ p + length (held_list held_text xs)
    = (s (map text xs) (texts_values xs front)).past ∙ ap (λ (zs : List ℕ). p + length zs) (sym (texts_list xs)) in
    subst (λ (q : ℕ). Lies run q ys) (sym far) (lies_back (held_list held_text xs) ys l)

-- ---- a statement

abbrev behind_actions : Statement → List ℕ
behind_actions x = held_list held_text x.resources ++ held_list held_row x.rows

abbrev pub statement_labelled : Statement → Labelled
statement_labelled x =
    record {
      first = effect_number x.effect;
      label = x.sid;
      more = held_list held_text x.actions ++ behind_actions x;
    }

module _ {run : List ℕ} {p : ℕ} (x : Statement) (l : Lies run p (held_statement x)) where
  pub statement_labelled_lem : Lies run p (held_labelled (statement_labelled x))
  unfolding held_statement
  statement_labelled_lem = l

  pub statement_inside : p < length run
  statement_inside = lies_inside statement_labelled_lem

  pub statement_effect : get_or run p 0 ≡ effect_number x.effect
  statement_effect = lies_first statement_labelled_lem

  module _ {a : ℕ} (far : BehindLabel run p a) where
    lists_lie : Lies run a (held_list held_text x.actions ++ behind_actions x)
    lists_lie =
        more_lies (statement_labelled x) statement_labelled_lem a (far (statement_labelled x) statement_labelled_lem)

    pub actions_lie : Lies run a (held_list held_text x.actions)
    actions_lie = lies_front (held_list held_text x.actions) (behind_actions x) lists_lie

    module _ {b : Seen} (at_b : ListPassed run a b) where
      behind_lies : Lies run b.past (behind_actions x)
      behind_lies = behind_texts x.actions (behind_actions x) lists_lie at_b

      pub resources_lie : Lies run b.past (held_list held_text x.resources)
      resources_lie = lies_front (held_list held_text x.resources) (held_list held_row x.rows) behind_lies

      pub rows_lie : {c : Seen} → ListPassed run b.past c → Lies run c.past (held_list held_row x.rows)
      rows_lie at_c = behind_texts x.resources (held_list held_row x.rows) behind_lies at_c

module _ {run : List ℕ} {p : ℕ} (y : Lying held_statement run p) where
  pub statement_lying : Lying held_labelled run p
  statement_lying = record { thing = statement_labelled y.thing; lies = statement_labelled_lem y.thing y.lies }

  module _ {a : ℕ} (far : BehindLabel run p a) where
    pub actions_texts : Lying (held_list held_text) run a
    actions_texts = record { thing = y.thing.actions; lies = actions_lie y.thing y.lies far }

    pub actions_values : Lying (held_list held_value) run a
    actions_values =
        record {
          thing = map text y.thing.actions;
          lies = texts_values y.thing.actions (actions_lie y.thing y.lies far);
        }

    module _ {b : Seen} (at_b : ListPassed run a b) where
      pub resources_texts : Lying (held_list held_text) run b.past
      resources_texts =
          record { thing = y.thing.resources; lies = resources_lie y.thing y.lies far at_b }

      pub resources_values : Lying (held_list held_value) run b.past
      resources_values =
          record {
            thing = map text y.thing.resources;
            lies = texts_values y.thing.resources (resources_lie y.thing y.lies far at_b);
          }

      pub statement_rows : {c : Seen} → ListPassed run b.past c → Lying (held_list held_row) run c.past
      statement_rows at_c = record { thing = y.thing.rows; lies = rows_lie y.thing y.lies far at_b at_c }

-- ---- a request

abbrev behind_action : Request → List ℕ
behind_action q = held_text q.resource ++ held_list held_context q.context

behind_text :
    {run : List ℕ} {p t : ℕ} (cs ys : List ℕ) → Lies run p (held_text cs ++ ys) → BehindValue run p t → Lies run t ys
behind_text {run} cs ys l s =
    let far = s (text cs) (lies_front (held_text cs) ys l) in
    subst (λ (z : ℕ). Lies run z ys) (sym far) (lies_back (held_text cs) ys l)

module _ {run : List ℕ} (q : Request) (l : Lies run 0 (held_request q)) where
  request_parts : Lies run 0 (held_text q.action ++ behind_action q)
  unfolding held_request
  request_parts = l

  pub action_lies : Lies run 0 (held_text q.action)
  action_lies = lies_front (held_text q.action) (behind_action q) request_parts

  module _ {t : ℕ} (at_t : BehindValue run 0 t) where
    behind_action_lem : Lies run t (behind_action q)
    behind_action_lem = behind_text q.action (behind_action q) request_parts at_t

    pub resource_lies : Lies run t (held_text q.resource)
    resource_lies = lies_front (held_text q.resource) (held_list held_context q.context) behind_action_lem

    pub contexts_lie : {c : ℕ} → BehindValue run t c → Lies run c (held_list held_context q.context)
    contexts_lie at_c = behind_text q.resource (held_list held_context q.context) behind_action_lem at_c

module _ {run : List ℕ} (y : Lying held_request run 0) where
  pub request_action : Lying held_text run 0
  request_action = record { thing = y.thing.action; lies = action_lies y.thing y.lies }

  module _ {t : ℕ} (at_t : BehindValue run 0 t) where
    pub request_resource : Lying held_text run t
    request_resource = record { thing = y.thing.resource; lies = resource_lies y.thing y.lies at_t }

    pub request_contexts : {c : ℕ} → BehindValue run t c → Lying (held_list held_context) run c
    request_contexts at_c =
        record { thing = y.thing.context; lies = contexts_lie y.thing y.lies at_t at_c }

pub text_value : {run : List ℕ} {p : ℕ} → Lying held_text run p → Lying held_value run p
text_value y = record { thing = text y.thing; lies = y.lies }
