-- T1 to T12, computed.
use mathlib.Core.Path.{refl}
use Rattle.chars.specs.Base.{one_of}
use Rattle.syntax.specs.Forms.{all, same, is_alphanumeric, is_vendor_char, is_name_char, is_name, is_vendor_tail, is_vendor}
use Rattle.syntax.specs.Forms.{is_action, colons, begins_arn, is_arn, is_resource}
use Rattle.held.specs.Held.{any_of}
use Rattle.decision.specs.Matching.{some_ending, first, matches}
use Rattle.decision.specs.Decision.{rows_from, part_of, first_of, decide}
use Rattle.writing.specs.WrittenForm.{bare}
use Rattle.candidates.specs.Candidates.{held_from}
use Rattle.candidates.specs.Beginnings.{begins, shared, longest_up_to}
use Rattle.candidates.specs.Entries.{wildcards, is_scalar, legal_text, legal_beginning, wild_kind}
use Rattle.candidates.specs.Rows.{content_of}
use Rattle.rooms.specs.Rooms.{row_slots, statement_slots, slots, row_hits, statement_hits, statement_charges, allowed_charges}
use Rattle.rooms.specs.Rooms.{charges}
use Rattle.refined.specs.Finishing.{kept, kept_rows, all_some, kept_statement, refined_policy}
use Rattle.demands.specs.Logs.{empty_room}
use Rattle.demands.specs.Trials.{TrialsPass, all_nothing, all_pass, bucket, G, north, s3_get, get_object, get_bucket_acl}
use Rattle.demands.specs.Trials.{send_message, trials}

pub trials_pass : TrialsPass
unfolding all_nothing all_pass bucket G north s3_get get_object get_bucket_acl send_message trials one_of all same is_alphanumeric
    is_vendor_char is_name_char is_name is_vendor_tail is_vendor is_action colons begins_arn is_arn is_resource any_of some_ending first
    matches rows_from part_of first_of decide bare held_from begins shared longest_up_to wildcards is_scalar legal_text
    legal_beginning wild_kind content_of row_slots statement_slots slots row_hits statement_hits statement_charges allowed_charges
    charges kept kept_rows all_some kept_statement refined_policy empty_room
trials_pass = refl
