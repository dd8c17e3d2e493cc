-- Each thing is in its place, where one bank has other renaming tables.
use Rattle.std.proofs.Common.{◌≡◌, ◌≢◌, ℕ, set, Some, refl, sym, ap, ◌∙◌, subst}
use Rattle.std.specs.Prelude.{slice_get}
use Rattle.std.specs.FinMap.{get}
use Rattle.tss_base.specs.declared.operand.OpName.{OpName}
use Rattle.tss_base.specs.declared.operand.Operand.{Operand}
use Rattle.tss_base.specs.declared.operand.Storage.{Storage}
use Rattle.tss_base.specs.declared.operand.Storage.TheVariants as storage
use Rattle.tss_base.specs.Names.{Named}
use Rattle.tss_events.specs.declared.message.Gone.{Gone}
use Rattle.tss_workers.specs.declared.running.Worker.{Worker}
use Rattle.tss_model.specs.Access.{operands_of}
use Rattle.tss_protocol.specs.Names.{bank_of}
use Rattle.tss_protocol.specs.Renaming.{line_of}
use Rattle.tss_banks.specs.Tables.{AreBankTables}
use Rattle.tss_banks.specs.Versions.{VersionsInBanks}
use Rattle.tss_renaming.specs.Bank.{RenamingState, tables_of}
use Rattle.tss_pipeline.specs.declared.bank.Bank.{Bank}
use Rattle.tss_pipeline.specs.State.{bank_tables}
use Rattle.tss_pipeline.specs.Fit.{Ground, ArePlaced, AreNamed, HoldsApart, HoldsOwn, HoldsLetters, HoldsStorage, HoldsStorages}
use Rattle.tss_pipeline.proofs.places.Holds.{HoldsAll, opening_held, gone_held, kept_held, engine_held}
use Rattle.tss_pipeline.proofs.places.BankChanges.{each_bank, tables_set, versions_kept}
use Rattle.tss_pipeline.proofs.places.Placing.{letters_fewer}

-- the ground with other renaming tables of a bank, and other messages
abbrev pub renamed : Ground → ℕ → Bank → RenamingState → Named Gone → Named Operand → Ground
renamed g n b r gones decodes =
    record g { banks = set g.banks n (record b { renaming = r }); gones = gones; decodes = decodes }

module _ (g : Ground) (placed : ArePlaced g) (n : ℕ) (b : Bank) (there : slice_get g.banks n ≡ Some b)
    (r : RenamingState) (gones : Named Gone) (decodes : Named Operand) where
  abbrev own : Bank
  own = record b { renaming = r }

  abbrev new : Ground
  new = renamed g n b r gones decodes

  -- the parts together
  pub placed_renamed : AreBankTables g.sizes (set (bank_tables g.banks) n (tables_of r))
      → HoldsOwn (record b { renaming = r })
      → ((i : ℕ) (x : Bank) → i ≢ n → slice_get g.banks i ≡ Some x
      → HoldsLetters (renamed g n b r gones decodes) i x)
      → HoldsLetters (renamed g n b r gones decodes) n
      (record b { renaming = r })
      → AreNamed g.opens gones
      → ((w : ℕ) (x : Worker) → get g.workers w ≡ Some x
      → HoldsStorages (renamed g n b r gones decodes) x)
      → ArePlaced (renamed g n b r gones decodes)
  placed_renamed tables holds others letters names workers = record {
    tables = subst (AreBankTables g.sizes) (sym (tables_set g.banks n b own there)) tables;
    versions = subst (VersionsInBanks g.sizes) (sym (versions_kept g.banks n b own there refl)) placed.versions;
    own = each_bank g.banks n b own there (λ i x. HoldsOwn x) (λ i x apart at. placed.own i x at) holds;
    letters = each_bank g.banks n b own there (HoldsLetters new) others letters;
    names = names;
    workers = workers;
  }

  -- a recorded storage, by what the bank holds still
  storage_still : (o : Operand) (s : Storage)
      → ((p : ℕ) (m : OpName) → s ≡ storage.Buffer p m → bank_of g.sizes o.object ≡ n
      → get b.renaming.buffers m ≡ Some p → get r.buffers m ≡ Some p)
      → HoldsStorage g o s → HoldsStorage new o s
  storage_still o storage.Home still h = tt
  storage_still o (storage.Buffer p m) still h = λ x at.
      each_bank g.banks n b own there (λ i y. bank_of g.sizes o.object ≡ i → get y.renaming.buffers m ≡ Some p)
      (λ i y apart at is. h y (ap (slice_get g.banks) is ∙ at))
      (λ is. still p m refl is (h b (ap (slice_get g.banks) is ∙ there))) (bank_of g.sizes o.object) x at refl

  -- those of a worker
  pub storages_still : (x : Worker)
      → ((k : ℕ) (o : Operand) (p : ℕ) (m : OpName) → slice_get (operands_of x.task) k ≡ Some o
      → slice_get x.storages k ≡ Some (storage.Buffer p m) → bank_of g.sizes o.object ≡ n
      → get b.renaming.buffers m ≡ Some p → get r.buffers m ≡ Some p)
      → HoldsStorages g x
      → HoldsStorages (renamed g n b r gones decodes) x
  storages_still x still h k o s at stored =
      storage_still o s (λ p m is. still k o p m at (stored ∙ ap Some is)) (h k o s at stored)

-- where the bank holds all that it held
module _ (g : Ground) (placed : ArePlaced g) (n : ℕ) (b : Bank) (there : slice_get g.banks n ≡ Some b)
    (r : RenamingState) (decodes : Named Operand) (all : HoldsAll b.renaming r) where
  abbrev with_all : Ground
  with_all = record g { banks = set g.banks n (record b { renaming = r }); decodes = decodes }

  own_held : HoldsApart r → HoldsOwn (record b { renaming = r })
  own_held apart =
      let h = placed.own n b there in
      record {
        apart = apart;
        versions = λ v y e. kept_held b.renaming r all v y (h.versions v y e);
        engine = engine_held b.renaming r all b.engine b.job h.engine;
      }

  letters_held : r.line ≡ line_of g.sizes n decodes → HoldsLetters with_all n (record b { renaming = r })
  letters_held line =
      let h = placed.letters n b there in
      record {
        opens = λ o x e f. opening_held b.renaming r all x (h.opens o x e f);
        gones = λ v x e f. gone_held b.renaming r all x (h.gones v x e f);
        line = line;
      }

  pub placed_held : AreBankTables g.sizes (set (bank_tables g.banks) n (tables_of r)) → HoldsApart r
      → r.line ≡ line_of g.sizes n decodes
      → ((i : ℕ) → i ≢ n → line_of g.sizes i decodes ≡ line_of g.sizes i g.decodes)
      → ArePlaced (record g { banks = set g.banks n (record b { renaming = r }); decodes = decodes })
  placed_held tables apart line lines =
      placed_renamed g placed n b there r g.gones decodes tables (own_held apart)
      (λ i x other at.
      letters_fewer g with_all i x refl (λ o y e. e) (λ v y e. e) (lines i other) (placed.letters i x at))
      (letters_held line) placed.names
      (λ w x at.
      storages_still g placed n b there r g.gones decodes x (λ k o p m e f is held. all.buffers m p held)
      (placed.workers w x at))
