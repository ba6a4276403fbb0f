-- The written form computed: the order's whole example; and every member, operator and escape in one policy.
use mathlib.Core.Path.{◌≡◌, refl}
use mathlib.Core.List.{[], ◌∷◌}
use Rattle.chars.specs.Base.{one_of}
use Rattle.chars.specs.Written.{coded, written, written_text}
use Rattle.text.specs.Printing.{printed}
use Rattle.syntax.specs.Policy.{star, any, Allow, Deny, StringEquals, StringLike, NumericLessThanEquals, text}
use Rattle.syntax.specs.Policy.{number, Policy}
use Rattle.writing.specs.WrittenForm.{bare, is_escaped, spelling, spelled, digits_up_to, values_of, action_tree}
use Rattle.writing.specs.WrittenForm.{resource_tree, value_tree, grouped, rows_tree, groups_tree, statement_tree}
use Rattle.writing.specs.WrittenForm.{tree_of, written_policy}

-- s3:GetObject on arn:aws:s3:::gate/north/é and a wildcard
example : Policy
example =
    record {
      sid = [];
      effect = Allow;
      actions = (115 ∷ 51 ∷ 58 ∷ 71 ∷ 101 ∷ 116 ∷ 79 ∷ 98 ∷ 106 ∷ 101 ∷ 99 ∷ 116 ∷ []) ∷ [];
      resources = (97 ∷ 114 ∷ 110 ∷ 58 ∷ 97 ∷ 119 ∷ 115 ∷ 58 ∷ 115 ∷ 51 ∷ 58 ∷ 58 ∷ 58 ∷
          103 ∷ 97 ∷ 116 ∷ 101 ∷ 47 ∷ 110 ∷ 111 ∷ 114 ∷ 116 ∷ 104 ∷ 47 ∷ 233 ∷ star ∷ []) ∷ [];
      rows = [];
    } ∷ []

-- {"Version":"2012-10-17","Statement":[{"Effect":"Allow","Action":["s3:GetObject"],"Resource":["arn:aws:s3:::ga
-- te/north/\u00e9*"]}]}
example_written : written_policy example
    ≡
    123 ∷ 34 ∷ 86 ∷ 101 ∷ 114 ∷ 115 ∷ 105 ∷ 111 ∷ 110 ∷ 34 ∷ 58 ∷ 34 ∷ 50 ∷ 48 ∷ 49 ∷ 50 ∷ 45 ∷ 49 ∷ 48 ∷ 45 ∷
    49 ∷ 55 ∷ 34 ∷ 44 ∷ 34 ∷ 83 ∷ 116 ∷ 97 ∷ 116 ∷ 101 ∷ 109 ∷ 101 ∷ 110 ∷ 116 ∷ 34 ∷ 58 ∷ 91 ∷ 123 ∷ 34 ∷ 69 ∷
    102 ∷ 102 ∷ 101 ∷ 99 ∷ 116 ∷ 34 ∷ 58 ∷ 34 ∷ 65 ∷ 108 ∷ 108 ∷ 111 ∷ 119 ∷ 34 ∷ 44 ∷ 34 ∷ 65 ∷ 99 ∷ 116 ∷
    105 ∷ 111 ∷ 110 ∷ 34 ∷ 58 ∷ 91 ∷ 34 ∷ 115 ∷ 51 ∷ 58 ∷ 71 ∷ 101 ∷ 116 ∷ 79 ∷ 98 ∷ 106 ∷ 101 ∷ 99 ∷ 116 ∷ 34 ∷
    93 ∷ 44 ∷ 34 ∷ 82 ∷ 101 ∷ 115 ∷ 111 ∷ 117 ∷ 114 ∷ 99 ∷ 101 ∷ 34 ∷ 58 ∷ 91 ∷ 34 ∷ 97 ∷ 114 ∷ 110 ∷ 58 ∷ 97 ∷
    119 ∷ 115 ∷ 58 ∷ 115 ∷ 51 ∷ 58 ∷ 58 ∷ 58 ∷ 103 ∷ 97 ∷ 116 ∷ 101 ∷ 47 ∷ 110 ∷ 111 ∷ 114 ∷ 116 ∷ 104 ∷ 47 ∷
    92 ∷ 117 ∷ 48 ∷ 48 ∷ 101 ∷ 57 ∷ 42 ∷ 34 ∷ 93 ∷ 125 ∷ 93 ∷ 125 ∷ []
unfolding example written_policy tree_of statement_tree action_tree resource_tree values_of spelled spelling is_escaped bare
    printed written_text written coded one_of
example_written = refl

-- plain * $ ? in a resource, then the wildcard ?, a quote and a reverse solidus; U+1D11E; two rows of one operator
every : Policy
every =
    record {
      sid = 65 ∷ 49 ∷ [];
      effect = Deny;
      actions = (star ∷ []) ∷ (115 ∷ 51 ∷ 58 ∷ 71 ∷ any ∷ 116 ∷ star ∷ []) ∷ [];
      resources =
          (star ∷ []) ∷
          (97 ∷ 114 ∷ 110 ∷ 58 ∷ 58 ∷ 58 ∷ 58 ∷ 58 ∷ 97 ∷ 42 ∷ 98 ∷ 36 ∷ 63 ∷ any ∷ 34 ∷ 92 ∷ []) ∷
          [];
      rows =
          (record {
            operator = StringLike;
            key = 107 ∷ [];
            entries = text (119070 ∷ star ∷ []) ∷ text (42 ∷ []) ∷ [];
          }) ∷
          (record { operator = StringLike; key = 75 ∷ 50 ∷ []; entries = text [] ∷ [] }) ∷
          (record {
            operator = NumericLessThanEquals;
            key = 107 ∷ [];
            entries = number 0 ∷ number 9007199254740991 ∷ [];
          }) ∷
          (record { operator = StringEquals; key = 107 ∷ []; entries = text (36 ∷ 42 ∷ 63 ∷ []) ∷ [] }) ∷
          [];
    } ∷ []

-- {"Version":"2012-10-17","Statement":[{"Sid":"A1","Effect":"Deny","Action":["*","s3:G?t*"],"Resource":["*","arn::
-- :::a${*}b${$}${?}?\"\\"],"Condition":{"StringLike":{"k":["\ud834\udd1e*","${*}"],"K2":[""]},"NumericLessThanEqua
-- ls":{"k":["0","9007199254740991"]},"StringEquals":{"k":["${$}*?"]}}}]}
every_written : written_policy every
    ≡
    123 ∷ 34 ∷ 86 ∷ 101 ∷ 114 ∷ 115 ∷ 105 ∷ 111 ∷ 110 ∷ 34 ∷ 58 ∷ 34 ∷ 50 ∷ 48 ∷ 49 ∷ 50 ∷ 45 ∷ 49 ∷ 48 ∷ 45 ∷
    49 ∷ 55 ∷ 34 ∷ 44 ∷ 34 ∷ 83 ∷ 116 ∷ 97 ∷ 116 ∷ 101 ∷ 109 ∷ 101 ∷ 110 ∷ 116 ∷ 34 ∷ 58 ∷ 91 ∷ 123 ∷ 34 ∷ 83 ∷
    105 ∷ 100 ∷ 34 ∷ 58 ∷ 34 ∷ 65 ∷ 49 ∷ 34 ∷ 44 ∷ 34 ∷ 69 ∷ 102 ∷ 102 ∷ 101 ∷ 99 ∷ 116 ∷ 34 ∷ 58 ∷ 34 ∷ 68 ∷
    101 ∷ 110 ∷ 121 ∷ 34 ∷ 44 ∷ 34 ∷ 65 ∷ 99 ∷ 116 ∷ 105 ∷ 111 ∷ 110 ∷ 34 ∷ 58 ∷ 91 ∷ 34 ∷ 42 ∷ 34 ∷ 44 ∷ 34 ∷
    115 ∷ 51 ∷ 58 ∷ 71 ∷ 63 ∷ 116 ∷ 42 ∷ 34 ∷ 93 ∷ 44 ∷ 34 ∷ 82 ∷ 101 ∷ 115 ∷ 111 ∷ 117 ∷ 114 ∷ 99 ∷ 101 ∷ 34 ∷
    58 ∷ 91 ∷ 34 ∷ 42 ∷ 34 ∷ 44 ∷ 34 ∷ 97 ∷ 114 ∷ 110 ∷ 58 ∷ 58 ∷ 58 ∷ 58 ∷ 58 ∷ 97 ∷ 36 ∷ 123 ∷ 42 ∷ 125 ∷ 98 ∷
    36 ∷ 123 ∷ 36 ∷ 125 ∷ 36 ∷ 123 ∷ 63 ∷ 125 ∷ 63 ∷ 92 ∷ 34 ∷ 92 ∷ 92 ∷ 34 ∷ 93 ∷ 44 ∷ 34 ∷ 67 ∷ 111 ∷ 110 ∷
    100 ∷ 105 ∷ 116 ∷ 105 ∷ 111 ∷ 110 ∷ 34 ∷ 58 ∷ 123 ∷ 34 ∷ 83 ∷ 116 ∷ 114 ∷ 105 ∷ 110 ∷ 103 ∷ 76 ∷ 105 ∷ 107 ∷
    101 ∷ 34 ∷ 58 ∷ 123 ∷ 34 ∷ 107 ∷ 34 ∷ 58 ∷ 91 ∷ 34 ∷ 92 ∷ 117 ∷ 100 ∷ 56 ∷ 51 ∷ 52 ∷ 92 ∷ 117 ∷ 100 ∷ 100 ∷
    49 ∷ 101 ∷ 42 ∷ 34 ∷ 44 ∷ 34 ∷ 36 ∷ 123 ∷ 42 ∷ 125 ∷ 34 ∷ 93 ∷ 44 ∷ 34 ∷ 75 ∷ 50 ∷ 34 ∷ 58 ∷ 91 ∷ 34 ∷ 34 ∷
    93 ∷ 125 ∷ 44 ∷ 34 ∷ 78 ∷ 117 ∷ 109 ∷ 101 ∷ 114 ∷ 105 ∷ 99 ∷ 76 ∷ 101 ∷ 115 ∷ 115 ∷ 84 ∷ 104 ∷ 97 ∷ 110 ∷
    69 ∷ 113 ∷ 117 ∷ 97 ∷ 108 ∷ 115 ∷ 34 ∷ 58 ∷ 123 ∷ 34 ∷ 107 ∷ 34 ∷ 58 ∷ 91 ∷ 34 ∷ 48 ∷ 34 ∷ 44 ∷ 34 ∷ 57 ∷
    48 ∷ 48 ∷ 55 ∷ 49 ∷ 57 ∷ 57 ∷ 50 ∷ 53 ∷ 52 ∷ 55 ∷ 52 ∷ 48 ∷ 57 ∷ 57 ∷ 49 ∷ 34 ∷ 93 ∷ 125 ∷ 44 ∷ 34 ∷ 83 ∷
    116 ∷ 114 ∷ 105 ∷ 110 ∷ 103 ∷ 69 ∷ 113 ∷ 117 ∷ 97 ∷ 108 ∷ 115 ∷ 34 ∷ 58 ∷ 123 ∷ 34 ∷ 107 ∷ 34 ∷ 58 ∷ 91 ∷
    34 ∷ 36 ∷ 123 ∷ 36 ∷ 125 ∷ 42 ∷ 63 ∷ 34 ∷ 93 ∷ 125 ∷ 125 ∷ 125 ∷ 93 ∷ 125 ∷ []
unfolding every written_policy tree_of statement_tree action_tree resource_tree value_tree values_of grouped rows_tree
    groups_tree spelled spelling is_escaped bare digits_up_to printed written_text written coded one_of
every_written = refl
