mod StripedLemmas
