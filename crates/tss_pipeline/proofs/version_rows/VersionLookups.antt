-- What the events of the versioning tables find in the bank of their object.
use Rattle.std.proofs.Common.{◌≡◌, ℕ, ◌+◌, ◌<◌, true, false, List, length, Option, Some, None, option_map, refl, sym, ap, ◌∙◌, subst, inl, inr, ◌⊎◌, get_or, arith, true≢false}
use Rattle.std.proofs.lemmas.Bool.Decides.{nat_tests}
use Rattle.std.specs.Prelude.{is_some, slice_get, IsSome}
use Rattle.std.specs.FinMap.{get}
use Rattle.std.proofs.lemmas.Option.{none-some, same_Some, slice_get_read, slice_get_within}
use Rattle.tss_base.specs.declared.operand.OpName.{OpName}
use Rattle.tss_base.specs.declared.machine.Key.TheVariants as key
use Rattle.tss_base.specs.declared.event.Event.TheVariants as event
use Rattle.tss_base.specs.declared.marks.Follow.{Follow}
use Rattle.tss_maps.proofs.Keys.{name_order}
use Rattle.tss_maps.proofs.Changes.{decide_get}
use Rattle.tss_maps.proofs.MappedLemmas.{get-mapped}
use Rattle.tss_banks.specs.Joined.{bank, IsInNoOther}
use Rattle.tss_banks.proofs.JoinedLemmas.{joined_there, get-joined}
use Rattle.tss_events.specs.declared.message.Opening.{Opening}
use Rattle.tss_events.specs.declared.message.Message.TheVariants as message
use Rattle.tss_events.specs.Events.{opening_of}
use Rattle.tss_protocol.specs.Names.{bank_of}
use Rattle.tss_protocol.specs.State.{OperandState, Version}
use Rattle.tss_protocol.specs.Stations.{operand_at}
use Rattle.tss_protocol.specs.Versions.{is_followable}
use Rattle.tss_protocol.specs.UnitMachine.{is_enabled, can_open_message, can_use_message}
use Rattle.tss_conditions.proofs.Opening.{openable, uses_version}
use Rattle.tss_pipeline.specs.declared.units.Units.{Units}
use Rattle.tss_pipeline.specs.declared.bank.Bank.{Bank}
use Rattle.tss_pipeline.specs.State.{state_of, bank_versions}
use Rattle.tss_pipeline.specs.Fit.{IsFit}
use Rattle.tss_pipeline.specs.Registering.{IsIn}
use Rattle.tss_pipeline.proofs.places.Lookups.{versions_here}

-- ---- one of the banks

-- there are banks
pub some_banks : (u : Units) → IsFit u → 0 < u.machine.sizes.banks
some_banks u fit = (fit.reached.reached.admissible.sizes key.Banks u.machine.sizes.banks refl).0

-- what was read at a place within a list stands there
pub read_there : (bs : List Bank) (n : ℕ) (b : Bank) → n < length bs → b ≡ get_or bs n b → slice_get bs n ≡ Some b
read_there bs n b within read = slice_get_read bs (length bs) n b refl within read

-- whether something is there doesn't depend on its form
pub is_some-mapped : {X Y : Type 0} (f : X → Y) (o : Option X) → is_some (option_map f o) ≡ is_some o
is_some-mapped f None = refl
is_some-mapped f (Some x) = refl

-- nothing is there
pub none_there : {X : Type 0} (o : Option X) → is_some o ≡ false → o ≡ None
none_there None h = refl
none_there (Some x) h = absurd (true≢false h)

-- a number below the next one is this one or below it
pub here_or_before : (i k : ℕ) → i < k + 1 → (i ≡ k) ⊎ (i < k)
here_or_before i k within = grind (arith, nat_tests)

-- the bank that has a version, as it was read
pub in_read : (bs : List Bank) (v : OpName) (n : ℕ) (b : Bank) → IsIn bs v n → b ≡ get_or bs n b
    → (slice_get bs n ≡ Some b) × IsSome (get b.versions.versions v)
in_read bs v n b i read =
    let at = read_there bs n b (slice_get_within bs n i.bank i.there) read in (
      at,
      subst (λ (b : Bank). IsSome (get b.versions.versions v)) (same_Some i.bank b (sym i.there ∙ at)) i.registered,
    )

module _ (u : Units) (fit : IsFit u) (n : ℕ) (b : Bank) (there : slice_get u.banks.items n ≡ Some b) (v : OpName)
    (own : (x : Version) → get (state_of u).versions v ≡ Some x → bank_of u.machine.sizes x.object ≡ n) where
  -- a name whose version, if it is registered, is of the bank's objects is in no other bank
  pub version_alone : IsInNoOther (bank_versions u.banks.items) n v
  version_alone i other = elim (decide_get (bank (bank_versions u.banks.items) i) v) [
    | inl none ↦ none
    | inr at ↦
        absurd (other
        (sym (fit.placed.versions.own i v at.0 at.1)
        ∙ own at.0
        (joined_there name_order (bank_versions u.banks.items) fit.placed.versions.apart i v at.0 at.1)))
  ]

  -- it is registered where it is in the bank
  pub registered_here : is_some (get b.versions.versions v) ≡ is_some (get (state_of u).versions v)
  registered_here =
      sym (is_some-mapped _ (get b.versions.versions v))
      ∙ ap is_some (sym (get-mapped _ b.versions.versions v))
      ∙ ap (λ m. is_some (get m v)) (sym (versions_here u.machine.sizes u.banks.items fit.placed.versions n b there))
      ∙ ap is_some (sym (get-joined name_order (bank_versions u.banks.items) n v version_alone))

-- ---- open

-- the message that was seen
pub opening_seen : (o : Option Opening) (x : Opening) → Some (message.Open x) ≡ option_map message.Open o → o ≡ Some x
opening_seen None x e = absurd (none-some (message.Open x) (sym e))
opening_seen (Some y) x e = cc

pub no_opening_seen : (o : Option Opening) → None ≡ option_map message.Open o → o ≡ None
no_opening_seen None e = refl
no_opening_seen (Some y) e = absurd (none-some (message.Open y) e)

module _ (u : Units) (fit : IsFit u) (o : OpName) where
  -- without a message nothing is opened
  pub opens_not : get u.mail.opens o ≡ None → false ≡ is_enabled u.machine (state_of u) (event.Open o)
  unfolding is_enabled
  opens_not none =
      sym (ap (can_open_message (state_of u))
      (get-mapped opening_of u.mail.opens o ∙ ap (option_map opening_of) none))

  module _ (x : Opening) (there : get u.mail.opens o ≡ Some x) where
    sent : get (state_of u).mail.opens o ≡ Some (opening_of x)
    sent = get-mapped opening_of u.mail.opens o ∙ ap (option_map opening_of) there

    -- a version that follows nothing is opened
    pub opens_first : x.follows ≡ None → true ≡ is_enabled u.machine (state_of u) (event.Open o)
    unfolding is_enabled
    opens_first none = sym (ap (can_open_message (state_of u)) sent ∙ ap (is_followable (state_of u).versions) none)

    -- and one that follows another where that is registered in the bank of its object
    pub opens_behind : (f : Follow) (b : Bank) → x.follows ≡ Some f
        → slice_get u.banks.items (bank_of u.machine.sizes x.operand.object) ≡ Some b
        → is_some (get b.versions.versions f.version) ≡ is_enabled u.machine (state_of u) (event.Open o)
    unfolding is_enabled
    opens_behind f b follows at =
        let law = openable u.machine fit.reached.image (state_of u) o (opening_of x) fit.reached.reached sent in
        registered_here u fit (bank_of u.machine.sizes x.operand.object) b at f.version
        (λ y e. ap (bank_of u.machine.sizes) (law.follows f y follows e).object)
        ∙ sym (ap (can_open_message (state_of u)) sent ∙ ap (is_followable (state_of u).versions) follows)

-- ---- use

-- the message that was seen
pub use_seen : (o name v : OpName) (g : Option OpName) → Some (message.Use name v) ≡ option_map (message.Use o) g
    → g ≡ Some v
use_seen o name v None e = absurd (none-some (message.Use name v) (sym e))
use_seen o name v (Some w) e = cc

pub no_use_seen : (o : OpName) (g : Option OpName) → None ≡ option_map (message.Use o) g → g ≡ None
no_use_seen o None e = refl
no_use_seen o (Some w) e = absurd (none-some (message.Use o w) e)

module _ (u : Units) (fit : IsFit u) (o : OpName) where
  -- without a message nothing is used
  pub uses_not : get u.mail.uses o ≡ None → false ≡ is_enabled u.machine (state_of u) (event.Use o)
  unfolding is_enabled
  uses_not none = sym (ap (can_use_message (state_of u)) none)

  module _ (v : OpName) (there : get u.mail.uses o ≡ Some v) where
    -- the operand has a record
    pub user_flies : IsSome (operand_at (state_of u).flight o)
    user_flies =
        let law = uses_version u.machine fit.reached.image (state_of u) o v fit.reached.reached there in
        subst IsSome (sym law.there) refl

    -- its version is used where it is registered in the bank of the operand's object
    pub uses_here : (n : ℕ) (b : Bank)
        → ((x : OperandState) → operand_at (state_of u).flight o ≡ Some x
        → n ≡ bank_of u.machine.sizes x.operand.object)
        → slice_get u.banks.items n ≡ Some b
        → is_some (get b.versions.versions v) ≡ is_enabled u.machine (state_of u) (event.Use o)
    unfolding is_enabled
    uses_here n b of_operand at =
        let law = uses_version u.machine fit.reached.image (state_of u) o v fit.reached.reached there in
        registered_here u fit n b at v
        (λ y e. ap (bank_of u.machine.sizes) (law.object y e) ∙ sym (of_operand law.operand law.there))
        ∙ sym (ap (can_use_message (state_of u)) there)
