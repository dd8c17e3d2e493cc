-- A state with no message, no task in flight, no entry and no version is controlled where its operands are in order,
-- whoever has come before. The first state is such a one, and so is a drained state.
use Rattle.std.proofs.Common.{◌≡◌, ℕ, true, [], None, refl, sym, ap, ◌∙◌, subst, inl, inr, true≢false}
use Rattle.std.specs.Ordering.{nat_cmp}
use Rattle.std.specs.FinMap.{get, get-empty}
use Rattle.std.proofs.lemmas.Option.{none-some}
use Rattle.tss_base.specs.declared.range.Range.{Range}
use Rattle.tss_base.specs.declared.operand.OpName.{OpName}
use Rattle.tss_base.specs.Names.{name_cmp}
use Rattle.tss_base.specs.Image.{ImageState}
use Rattle.tss_maps.proofs.Entries.{absent_empty}
use Rattle.tss_protocol.specs.State.{State, initial_state}
use Rattle.tss_protocol.specs.Stations.{operand_at}
use Rattle.tss_protocol.specs.MainEvent.{is_drained}
use Rattle.tss_protocol.proofs.DrainedStates.{nothing_drained, has_none}
use Rattle.tss_locality.proofs.Flights.{record_in}
use Rattle.tss_phases.specs.Orderly.{AreOrderly}
use Rattle.tss_control.specs.Members.{IsMember}
use Rattle.tss_control.specs.Chains.{HasChains}
use Rattle.tss_control.specs.Entries.{HasEntries, HasRetirement}
use Rattle.tss_control.specs.Readers.{Arrivals, Holds, HasReaders}
use Rattle.tss_control.specs.Holders.{HasHolders}
use Rattle.tss_control.specs.Runners.{AreApart}
use Rattle.tss_control.specs.Control.{IsControlled}
use Rattle.tss_names.proofs.QueueLemmas.{in_queue}

-- nothing stands where the control looks
pub record IsBare (S : State) : Type 0 where
  pub flight : (n : ℕ) → get S.flight n ≡ None
  pub queue : S.queue ≡ []
  pub workers : (w : ℕ) → get S.workers w ≡ None
  pub entries : (b : ℕ) → get S.entries b ≡ None
  pub versions : (v : OpName) → get S.versions v ≡ None
  pub decodes : (o : OpName) → get S.mail.decodes o ≡ None
  pub opens : (o : OpName) → get S.mail.opens o ≡ None
  pub uses : (o : OpName) → get S.mail.uses o ≡ None
  pub readies : (o : OpName) → get S.mail.readies o ≡ None
  pub links : (o : OpName) → get S.mail.links o ≡ None
  pub releases : (o : OpName) → get S.mail.releases o ≡ None
  pub byes : (o : OpName) → get S.mail.byes o ≡ None

-- ---- such a state is controlled

module _ (S : State) (bare : IsBare S) where
  no_record : (o : OpName) → operand_at S.flight o ≡ None
  no_record o = ap (record_in o.place) (bare.flight o.task)

  no_member : (x : Range) (v : OpName) → IsMember S x v → ⊥
  no_member x v (inl registered) = none-some registered.0 (sym (bare.versions v) ∙ registered.1)
  no_member x v (inr opened) = none-some opened.0 (sym (bare.opens v) ∙ opened.1)

  no_holder : (a b : OpName) → Holds S a b → ⊥
  no_holder a b holds = none-some holds.0 (sym (no_record a) ∙ holds.1)

  bare_chains : HasChains [] S
  bare_chains = record {
    one = λ x v w in_v in_w same. absurd (no_member x v in_v);
    opener = λ v y e. absurd (none-some y (sym (bare.versions v) ∙ e));
    linked = λ v y e. absurd (none-some y (sym (bare.versions v) ∙ e));
    storages = λ v y e. absurd (none-some y (sym (bare.versions v) ∙ e));
    opens = λ o c e. absurd (none-some c (sym (bare.opens o) ∙ e));
    uses = λ o v e. absurd (none-some v (sym (bare.uses o) ∙ e));
  }

  bare_entries : HasEntries [] S
  bare_entries = record {
    absent = λ o p e none. absurd (none-some p e);
    operand = λ b e there. absurd (none-some e (sym (bare.entries b) ∙ there));
    live = λ b e there. absurd (none-some e (sym (bare.entries b) ∙ there));
    retiring = λ b e there. absurd (none-some e (sym (bare.entries b) ∙ there));
    decoded = λ b e o there. absurd (none-some e (sym (bare.entries b) ∙ there));
  }

  bare_retirement : HasRetirement S
  bare_retirement = record {
    asked = λ v y count e. absurd (none-some y (sym (bare.versions v) ∙ e));
    refused = λ v y count e. absurd (none-some y (sym (bare.versions v) ∙ e));
    refusing = λ v y count e. absurd (none-some y (sym (bare.versions v) ∙ e));
    settled = λ v y e. absurd (none-some y (sym (bare.versions v) ∙ e));
  }

  bare_readers : (g : Arrivals) → HasReaders [] g S
  bare_readers g = record {
    versions = λ v y e. absurd (none-some y (sym (bare.versions v) ∙ e));
    apart = λ v w a y z e. absurd (none-some y (sym (bare.versions v) ∙ e));
    links = λ a b e. absurd (none-some b (sym (bare.links a) ∙ e));
    held = λ a b holds. absurd (no_holder a b holds);
  }

  bare_holders : (g : Arrivals) → HasHolders [] g S
  bare_holders g = record {
    told = λ o p s e. absurd (none-some p e);
    ready = λ o p r s e. absurd (none-some p e);
    linking = λ o next p r s e. absurd (none-some p e);
    releases = λ o p c e. absurd (none-some p e);
    waiting_writer = λ o p e. absurd (none-some p e);
    waiting_reader = λ o p e. absurd (none-some p e);
    openers = λ v y p e. absurd (none-some y (sym (bare.versions v) ∙ e));
    records = λ o next e. absurd (none-some next (sym (bare.links o) ∙ e));
    links = λ o p r e. absurd (none-some p e);
    runners = record {
      queued = λ n e. absurd (true≢false (sym e ∙ ap (in_queue n) bare.queue));
      once = subst AreApart (sym bare.queue) tt;
      running = λ w b e. absurd (none-some b (sym (bare.workers w) ∙ e));
      single = λ w u b c e. absurd (none-some b (sym (bare.workers w) ∙ e));
      late = λ o r e. absurd (none-some r (sym (no_record o) ∙ e));
    };
  }

  -- by an empty round
  pub IsControlled-bare : (g : Arrivals) → AreOrderly S → IsControlled [] g S
  IsControlled-bare g orderly = record {
    orderly = orderly;
    chains = bare_chains;
    entries = bare_entries;
    retirement = bare_retirement;
    readers = bare_readers g;
    holders = bare_holders g;
  }

-- ---- states that are

-- the first state
pub IsBare-initial_state : (i : ImageState) → IsBare (initial_state i)
IsBare-initial_state i = record {
  flight = λ n. get-empty nat_cmp n;
  queue = refl;
  workers = λ w. get-empty nat_cmp w;
  entries = λ b. get-empty nat_cmp b;
  versions = λ v. get-empty name_cmp v;
  decodes = λ o. get-empty name_cmp o;
  opens = λ o. get-empty name_cmp o;
  uses = λ o. get-empty name_cmp o;
  readies = λ o. get-empty name_cmp o;
  links = λ o. get-empty name_cmp o;
  releases = λ o. get-empty name_cmp o;
  byes = λ o. get-empty name_cmp o;
}

-- a drained state
pub IsBare-drained : (S : State) → is_drained S ≡ true → IsBare S
IsBare-drained S drained =
    let h = nothing_drained S drained in
    let m = has_none S.mail h.messages in
    record {
      flight = λ n. absent_empty S.flight n h.flight;
      queue = h.queue;
      workers = λ w. absent_empty S.workers w h.workers;
      entries = λ b. absent_empty S.entries b h.entries;
      versions = λ v. absent_empty S.versions v h.versions;
      decodes = λ o. absent_empty S.mail.decodes o m.decodes;
      opens = λ o. absent_empty S.mail.opens o m.opens;
      uses = λ o. absent_empty S.mail.uses o m.uses;
      readies = λ o. absent_empty S.mail.readies o m.readies;
      links = λ o. absent_empty S.mail.links o m.links;
      releases = λ o. absent_empty S.mail.releases o m.releases;
      byes = λ o. absent_empty S.mail.byes o m.byes;
    }
