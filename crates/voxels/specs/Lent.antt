-- Lent memory as the memory that every promise speaks of. What is read of it stands in means, specs/Mem. Assumes nothing.
use Rattle.std.specs.Prelude.{[], ◌∷◌, refl}
use Rattle.seats.specs.Promise.{Memory}
use Rattle.means.specs.Mem.{Mem, lens_of, size_of, SoundMem, state_of, reads_in, lookup_in, negative_in, UnspoiltMem}
use Rattle.means.proofs.Memory as law

abbrev pub lent : Memory 3 (2 ∷ 2 ∷ [])
lent =
    record {
      Mem = Mem;
      lens = lens_of;
      size = size_of;
      Sound = SoundMem;
      state = state_of;
      reads = reads_in;
      lookup_at = lookup_in;
      negative_at = negative_in;
      Unspoilt = UnspoiltMem;
      is_sound = law.mem_sound;
      reads_is = law.reads_is;
      lookup_is = law.lookup_is;
      negative_is_lem = law.negative_is_lem;
      proper_is = law.proper_is;
      all_is = λ m. refl;
      within = law.within;
    }
