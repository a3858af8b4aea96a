-- The law under the repeated reduction, about the audit's own count: maps without faults compose.
-- And each state's own number is a map without faults from a graph to itself. Assumes nothing.
use Prim.Native.Nat.{ℕ, ◌<◌}
use mathlib.Core.Path.{◌≡◌, refl, ap, ◌∙◌}
use mathlib.Core.List.{List}
use Rattle.graph.specs.Map.{mapped}
use Rattle.graph.specs.declared.Shape.{Shape}
use Rattle.graph_check.specs.Check.{Admitted}
use Rattle.lts.proofs.Compose.{reduces_compose, Reduces·refl}
use Rattle.audit_faults.specs.Faults.{faults_of}
use Rattle.audit_admitted.specs.Admitted.{Audited}
use Rattle.audit_entry.specs.Audit.{audit_of, faultless}
use Rattle.audit_entry.proofs.Meaning.{hop_to, zero_faults_reduces, reduces_zero}
use Rattle.audit_entry.proofs.Answering.{faultless_iff}
use Rattle.shrink_compose.specs.Composed.{composed, identity_map}
use Rattle.shrink_compose.proofs.ComposedMaps.{composed_at, identity_length, identity_at, composed_admitted}

module _ (sh1 sh2 sh3 : Shape) (h1 h2 h3 m n : List ℕ) where
  -- what can be audited, one after the other, can be audited as one
  pub audited_composes : Audited sh1 sh2 h1 h2 m → Audited sh2 sh3 h2 h3 n → Audited sh1 sh3 h1 h3 (composed m n)
  audited_composes a b = record { first = a.first; second = b.second; labels = a.labels ∙ b.labels; map = composed_admitted a.map b.map }

  -- "if one map has 0 faults from graph 1 to graph 2, and another 0 from graph 2 to graph 3, one
  -- after the other has 0 from graph 1 to graph 3": of admitted graphs and maps, with equal label
  -- counts
  pub faults_zero_compose : Audited sh1 sh2 h1 h2 m → Audited sh2 sh3 h2 h3 n → faults_of sh1 sh2 h1 h2 m ≡ 0 → faults_of sh2 sh3 h2 h3 n ≡ 0 →
      faults_of sh1 sh3 h1 h3 (composed m n) ≡ 0
  faults_zero_compose a b y z =
      let f = zero_faults_reduces sh1 sh2 h1 h2 m a.first.range y in
      let g = zero_faults_reduces sh2 sh3 h2 h3 n b.first.range z in
      reduces_zero sh1 sh3 h1 h3 (composed m n) a.first.range
      (reduces_compose {D2 = λ s. s < sh2.states} (λ s i t h. hop_to a.first.range s i t h) a.map.entries_in f.keeps g.keeps) chain
      (chain sh1.initial a.first.initial_in ∙ ap (mapped n) f.joins ∙ g.joins)
    where
      chain : (s : ℕ) → s < sh1.states → mapped (composed m n) s ≡ mapped n (mapped m s)
      chain s l = composed_at m n (rw a.map.one_a_state l)

  -- the same of the audit's whole answer
  pub audit_zero_compose : audit_of sh1 sh2 h1 h2 m ≡ faultless → audit_of sh2 sh3 h2 h3 n ≡ faultless → audit_of sh1 sh3 h1 h3 (composed m n) ≡ faultless
  audit_zero_compose d e =
      let (a, y) = (faultless_iff sh1 sh2 h1 h2 m).0 d in
      let (b, z) = (faultless_iff sh2 sh3 h2 h3 n).0 e in
      (faultless_iff sh1 sh3 h1 h3 (composed m n)).1 (audited_composes a b, faults_zero_compose a b y z)

-- a graph and itself
pub identity_audit_zero : (sh : Shape) (hs : List ℕ) → Admitted sh hs → audit_of sh sh hs hs (identity_map sh.states) ≡ faultless
identity_audit_zero sh hs adm = (faultless_iff sh sh hs hs (identity_map sh.states)).1 (audited, reduces_zero sh sh hs hs (identity_map sh.states) adm.range Reduces·refl (λ s l. identity_at sh.states l) (identity_at sh.states adm.initial_in)) where
  audited : Audited sh sh hs hs (identity_map sh.states)
  audited = record {
    first = adm;
    second = adm;
    labels = refl;
    map = record { one_a_state = identity_length sh.states; entries_in = λ s l. rw (identity_at sh.states l) l };
  }
