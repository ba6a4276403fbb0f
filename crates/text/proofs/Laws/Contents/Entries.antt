-- A member's name, colon and value stand where the code finds them, since each of its places is told once.
use mathlib.Core.Path.{◌≡◌, refl, sym, ap, ◌∙◌, subst}
use mathlib.Core.List.{List, [], ◌∷◌}
use Prim.Native.Nat.{ℕ, ◌+◌, ◌-◌, ◌≤◌, ◌<◌}
use native.Mathlib.Omega.{arith}
use lib.ListN.{length}
use Rattle.chars.specs.Base.{At, part, one_of}
use Rattle.text.specs.Json.{Members, named, depth, depthm, levels, Space, a_value, members, Reads, member}
use Rattle.text.specs.Machine.{ws, text, move}
use Rattle.text.specs.Reading.{Done}
use Rattle.text.specs.Contents.{Some, Entry, Leader, Leads}
use Rattle.text.specs.Seeking.{Quoting}
use Rattle.text.specs.declared.walk.Member.{Member}
use Rattle.text.specs.declared.walk.Member.TheVariants as M
use Rattle.text.proofs.Laws.Places.{done_unique}
use Rattle.text.proofs.Laws.Ends.{ends_more}
use Rattle.text.proofs.Laws.Spaces.{space_is}
use Rattle.text.proofs.Laws.Complete.{body_done}
use Rattle.text.proofs.Laws.Starts.{value_starts, members_start}
use Rattle.text.proofs.Laws.Once.Readings.{moved}

-- a member's name, colon and value, as the code finds their places
pub record Headed (s : List ℕ) (ms : Members) (i e q : ℕ) : Type 0 where
  pub name_done : Done s (text ∷ []) (i + 1) q
  pub colon : (c : ℕ) → Done s (ws ∷ []) q c → At s c 58
  pub leader : (c v : ℕ) → Done s (ws ∷ []) q c → Done s (ws ∷ []) (c + 1) v → Leader s i ms e (i + 1) (q - 1) v

entry_reads : {s : List ℕ} {i e : ℕ} {ms : Members} → depthm ms ≤ levels → Reads s (members ms) i e
    → Some ℕ (λ q n. Headed s ms i e q)
unfolding depth move one_of
entry_reads {s} {i} {e} h (member {q = q} {c = c} {v = v} {j = j} {t = t} {ms = ms} n w o x r m) =
    let d = body_done n in
    let y = n.past in
    let k : q - 1 ≡ n.close = omega arith in
    let b = value_starts r in
    record {
      what = q;
      stop = q;
      is = record {
        name_done = d;
        colon = λ c' g. subst (λ (a : ℕ). At s a 58) (space_is g w o refl) o;
        leader = λ c' v' g f.
            let z = space_is g w o refl in
            let u = space_is f (subst (λ (a : ℕ). Space s (a + 1) v) z x) b.at b.black in
            record {
              head = t;
              tail = ms;
              is = ap (λ (l : List ℕ). named l t ms) (sym (ap (part s (i + 1)) k ∙ n.spelt.is));
              order = omega (arith, n.spelt.order);
              inside = omega (arith, n.closes.inside);
              stop = j;
              stands = record { reads = moved (a_value t) u r; ends = ends_more m; shallow = omega arith };
              follows = record { reads = m; shallow = omega arith };
              later = omega (arith, d.low, g.low, f.low);
            };
      };
    }

-- whatever place the code finds for the end of the name
pub entry_headed : {s : List ℕ} {i e q : ℕ} {ms : Members} → Entry s ms i e → Done s (text ∷ []) (i + 1) q
    → Headed s ms i e q
entry_headed {s} {i} {e} {q} {ms} p d =
    let r = entry_reads p.shallow p.reads in
    subst (Headed s ms i e) (done_unique (text ∷ []) r.is.name_done d) r.is

pub entry_done : {s : List ℕ} {i e : ℕ} {ms : Members} → Entry s ms i e → Some ℕ (λ q n. Headed s ms i e q)
entry_done p = entry_reads p.shallow p.reads

pub entry_quoting : {s : List ℕ} {i e : ℕ} {ms : Members} → Entry s ms i e → Quoting s (i + 1)
entry_quoting p = let r = entry_done p in record { stop = r.what; is = r.is.name_done }

pub entry_inside : {s : List ℕ} {i e : ℕ} {ms : Members} → Entry s ms i e → i < length s
entry_inside p = (members_start p.reads).inside

pub leads_later : (s : List ℕ) (i k : ℕ) (ms : Members) (e : ℕ) (r : Member) → i ≤ k → Leads s k ms e r
    → Leads s i ms e r
leads_later s i k ms e (M.Named n m v) h p =
    record {
      head = p.head;
      tail = p.tail;
      is = p.is;
      order = p.order;
      inside = p.inside;
      stop = p.stop;
      stands = p.stands;
      follows = p.follows;
      later = omega (arith, p.later);
    }
leads_later s i k ms e (M.Past q) h p = p
